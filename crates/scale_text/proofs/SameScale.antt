-- Document 02, Q-12: the shares that pass the test of a scale are exactly those that some text is read as, and each
-- scale is read from one text alone.
-- Assumes nothing.
use mathlib.Core.Path.{◌≡◌}
use mathlib.Core.Bool.{true}
use mathlib.Core.List.{List}
use Prim.Native.Nat.{ℕ}
use Rattle.lists.specs.Each.{Each}
use Rattle.scale.specs.Scale.{scale_passes}
use Rattle.scale.proofs.Passing.{passes-never-rising, passes-length}
use Rattle.text.proofs.Ascii.{Byte}
use Rattle.scale_text.specs.Read.{read_as, read_of}
use Rattle.scale_text.specs.Days.{scale_text_of}
use Rattle.scale_text.proofs.ScaleBack.{text-bytes, scale_back, scale-read}

-- some text of bytes is read as the shares
pub record SomeText (shares : List ℕ) : Type 0 where
  pub text : List ℕ
  pub bytes : Each Byte text
  pub reads : read_of text ≡ read_as shares

-- the text of a scale, a line for each day, is read back as the scale
pub read_back : (shares : List ℕ) → scale_passes shares ≡ true → read_of (scale_text_of shares) ≡ read_as shares
read_back shares e = scale_back shares (passes-length shares e) (passes-never-rising shares e)

-- shares that are read are a scale
pub read-passes : (s shares : List ℕ) → read_of s ≡ read_as shares → scale_passes shares ≡ true
unfolding scale_passes
read-passes s shares e = let r = scale-read s shares e in simp (scale_passes, r.days, r.falls)

-- and the text that they are read from is theirs, byte for byte
pub text-told : (s shares : List ℕ) → read_of s ≡ read_as shares → s ≡ scale_text_of shares
text-told s shares e = (scale-read s shares e).text

-- the scales are exactly the shares that some text is read as
pub scale-exactly : (shares : List ℕ)
    → (scale_passes shares ≡ true → SomeText shares) × (SomeText shares → scale_passes shares ≡ true)
scale-exactly shares = (
  λ e. record { text = scale_text_of shares; bytes = text-bytes shares; reads = read_back shares e },
  λ t. read-passes t.text shares t.reads,
)
