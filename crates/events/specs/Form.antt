-- Document 01, Events and statement: the event form, read in its parts. What reading a part of a line answers.
-- Assumes nothing.
use Rattle.std.specs.Prelude.{List, [], ◌∷◌, ℕ, ◌-◌, length, drop, get_or}
use Rattle.std.specs.Prelude.{Option, None, Some}
use Rattle.text.specs.Bytes.{bytes}
use Rattle.text.specs.Template.{matched}
use Rattle.treaty.specs.declared.Loss.{Loss}
use Rattle.events.specs.Event.{event_text, loss_text, loss_from}

-- the beginning of a line of n bytes, from its numbers and what is left: the day, and the place where that begins
abbrev pub head_from : (n : ℕ) → Option (List ℕ × List ℕ) → Option (ℕ × ℕ)
head_from n None = None
head_from n (Some p) = Some (get_or p.0 0 0, n - length p.1)

-- how a line begins
unfoldable pub head_of : List ℕ → Option (ℕ × ℕ)
head_of s = head_from (length s) (matched [] event_text s)

-- a loss form, likewise: the loss, and the place after its form
abbrev pub loss_form_from : (n : ℕ) → Option (List ℕ × List ℕ) → Option (Loss × ℕ)
loss_form_from n None = None
loss_form_from n (Some p) = Some (loss_from p.0, n - length p.1)

-- what stands at a place of a line
unfoldable pub loss_at : List ℕ → (at : ℕ) → Option (Loss × ℕ)
loss_at s at = loss_form_from (length s) (matched [] loss_text (drop at s))

-- what stands at a place of a line after a treaty's number t and a space: the rest of a loss form
unfoldable pub amounts_at : List ℕ → (t at : ℕ) → Option (Loss × ℕ)
amounts_at s t at = loss_form_from (length s) (matched (t ∷ []) (bytes "E G)") (drop at s))
