-- A line of a statement that is put piece by piece, each piece with the number after it, is its template, filled. What
-- follows a piece in the template is found by computing, so that a piece that differs by a byte is refused.
-- Assumes nothing.
use mathlib.Core.Path.{◌≡◌, refl}
use mathlib.Core.List.{List, [], ◌∷◌, ◌++◌}
use Prim.Native.Nat.{ℕ, ◌≤◌}
use native.Mathlib.Omega.{arith}
use lib.ListN.{length, take, drop}
use lib.Seq.{take_at}
use Rattle.text.specs.Buffer.{Put}
use Rattle.text.specs.Bytes.{bytes}
use Rattle.text.specs.Number.{printed_by, printed, digits}
use Rattle.text.specs.Template.{capital, holes, filled}
use Rattle.text.proofs.Puts.{put_whole, put-append}
use Rattle.text.proofs.Pieces.{none_pieced, field_put, piece_put, rest_pieced, last-put}
use Rattle.year.specs.Statement.{event_template, treaty_template, risk_template, cat_template, total_template}
use Rattle.year.specs.Statement.{amounts_numbers, added}
use Rattle.year.specs.declared.Amounts.{Amounts}
use Rattle.statement.specs.declared.line.Figures.{Figures}
use Rattle.statement.specs.declared.line.Tier.{Tier}
use Rattle.statement.specs.declared.line.Tier.TheVariants.{Risk, Cat}
use Rattle.statement.specs.LineKinds.{tier_template, beginning_of, figures_numbers}
use Rattle.statement.specs.LineKinds.{amounts_tail, last_tail, figures_tail}

-- a piece, and a number
pub both-put : {d d₁ d₂ : List ℕ} {at a₁ end : ℕ} (p : List ℕ) (n : ℕ) → Put d at p d₁ a₁ → Put d₁ a₁ (digits n) d₂ end
    → Put d at (p ++ digits n) d₂ end
both-put p n q₁ q₂ = put-append q₁ q₂

module _ {d d₁ d₂ : List ℕ} {at a₁ end : ℕ} where
  pub event-put : (day : ℕ) (a : Amounts) → Put d at (bytes "(event " ++ digits day) d₁ a₁
      → Put d₁ a₁ (filled amounts_tail (amounts_numbers a) (10 ∷ [])) d₂ end
      → Put d at (filled event_template (day ∷ amounts_numbers a) (10 ∷ [])) d₂ end
  unfolding holes capital
  event-put day a p₁ p₂ =
      let g = none_pieced d at (day ∷ amounts_numbers a) (10 ∷ []) 0 event_template in
      rest_pieced (field_put (bytes "(event ") _ _ g refl refl p₁ 1 refl) p₂

  pub layer-put : (t : Tier) (place : ℕ) (f : Figures) {w : List ℕ} → w ≡ beginning_of t
      → Put d at (w ++ digits place) d₁ a₁
      → Put d₁ a₁ (filled figures_tail (figures_numbers f) (10 ∷ [])) d₂ end
      → Put d at (filled (tier_template t) (place ∷ figures_numbers f) (10 ∷ [])) d₂ end
  unfolding holes capital
  layer-put Risk place f e p₁ p₂ =
      let g = none_pieced d at (place ∷ figures_numbers f) (10 ∷ []) 0 risk_template in
      rest_pieced (field_put (bytes "(layer risk ") _ _ g refl refl (rw e at p₁) 1 refl) p₂
  layer-put Cat place f e p₁ p₂ =
      let g = none_pieced d at (place ∷ figures_numbers f) (10 ∷ []) 0 cat_template in
      rest_pieced (field_put (bytes "(layer cat ") _ _ g refl refl (rw e at p₁) 1 refl) p₂

  pub total-put : (a : Amounts) → Put d at (bytes "(total") d₁ a₁
      → Put d₁ a₁ (filled amounts_tail (amounts_numbers a) (10 ∷ [])) d₂ end
      → Put d at (filled total_template (amounts_numbers a) (10 ∷ [])) d₂ end
  unfolding holes capital
  total-put a p₁ p₂ =
      let g = none_pieced d at (amounts_numbers a) (10 ∷ []) 0 total_template in
      rest_pieced (piece_put (bytes "(total") _ g refl p₁) p₂

  pub treaty-put : (number ceded : ℕ) {d₃ : List ℕ} {a₂ : ℕ} → Put d at (bytes "(treaty " ++ digits number) d₁ a₁
      → Put d₁ a₁ (bytes " (ceded " ++ digits ceded) d₂ a₂
      → Put d₂ a₂ (bytes "))\n") d₃ end
      → Put d at (filled treaty_template (number ∷ ceded ∷ []) (10 ∷ [])) d₃ end
  unfolding holes capital
  treaty-put number ceded p₁ p₂ p₃ =
      let g₀ = none_pieced d at (number ∷ ceded ∷ []) (10 ∷ []) 0 treaty_template in
      let g₁ = field_put (bytes "(treaty ") _ _ g₀ refl refl p₁ 1 refl in
      let g₂ = field_put (bytes " (ceded ") _ _ g₁ refl refl p₂ 2 refl in
      last-put (bytes "))") g₂ refl p₃

-- the line of an event without losses, the zeros among the bytes of its last piece
pub idle-put : (n : ℕ) {d d₁ d₂ d₃ : List ℕ} {at a₁ a₂ end : ℕ} → Put d at (bytes "(event ") d₁ a₁
    → Put d₁ a₁ (digits n) d₂ a₂
    → Put d₂ a₂ (bytes " (gross 0) (ceded 0) (risk 0) (cat 0) (net 0) (premium 0))\n") d₃ end
    → Put d at (filled event_template (n ∷ amounts_numbers (added [])) (10 ∷ [])) d₃ end
unfolding filled capital printed printed_by
idle-put n p₁ p₂ p₃ = event-put n (added []) (both-put (bytes "(event ") n p₁ p₂) p₃

-- the amounts of an event or of a run: the last three, and all six
module _ (a : Amounts) {d d₁ d₂ d₃ d₄ : List ℕ} {at a₁ a₂ a₃ end : ℕ} where
  pub last-amounts : Put d at (bytes ") (cat " ++ digits a.cat) d₁ a₁
      → Put d₁ a₁ (bytes ") (net " ++ digits a.net) d₂ a₂
      → Put d₂ a₂ (bytes ") (premium " ++ digits a.premium) d₃ a₃
      → Put d₃ a₃ (bytes "))\n") d₄ end
      → Put d at (filled last_tail (a.cat ∷ a.net ∷ a.premium ∷ []) (10 ∷ [])) d₄ end
  unfolding holes capital
  last-amounts p₁ p₂ p₃ p₄ =
      let g₀ = none_pieced d at (a.cat ∷ a.net ∷ a.premium ∷ []) (10 ∷ []) 0 last_tail in
      let g₁ = field_put (bytes ") (cat ") _ _ g₀ refl refl p₁ 1 refl in
      let g₂ = field_put (bytes ") (net ") _ _ g₁ refl refl p₂ 2 refl in
      let g₃ = field_put (bytes ") (premium ") _ _ g₂ refl refl p₃ 3 refl in
      last-put (bytes "))") g₃ refl p₄

  pub amounts-put : Put d at (bytes " (gross " ++ digits a.gross) d₁ a₁
      → Put d₁ a₁ (bytes ") (ceded " ++ digits a.ceded) d₂ a₂
      → Put d₂ a₂ (bytes ") (risk " ++ digits a.risk) d₃ a₃
      → Put d₃ a₃ (filled last_tail (a.cat ∷ a.net ∷ a.premium ∷ []) (10 ∷ [])) d₄ end
      → Put d at (filled amounts_tail (amounts_numbers a) (10 ∷ [])) d₄ end
  unfolding holes capital
  amounts-put p₁ p₂ p₃ p₄ =
      let g₀ = none_pieced d at (amounts_numbers a) (10 ∷ []) 0 amounts_tail in
      let g₁ = field_put (bytes " (gross ") _ _ g₀ refl refl p₁ 1 refl in
      let g₂ = field_put (bytes ") (ceded ") _ _ g₁ refl refl p₂ 2 refl in
      let g₃ = field_put (bytes ") (risk ") _ _ g₂ refl refl p₃ 3 refl in
      rest_pieced g₃ p₄

-- the figures of a layer, after its place
pub figures-put : (f : Figures) {d d₁ d₂ d₃ d₄ d₅ : List ℕ} {at a₁ a₂ a₃ a₄ end : ℕ}
    → Put d at (bytes " (deductible " ++ digits f.deductible) d₁ a₁
    → Put d₁ a₁ (bytes ") (cover " ++ digits f.cover) d₂ a₂
    → Put d₂ a₂ (bytes ") (recovered " ++ digits f.recovered) d₃ a₃
    → Put d₃ a₃ (bytes ") (premium " ++ digits f.premium) d₄ a₄
    → Put d₄ a₄ (bytes "))\n") d₅ end
    → Put d at (filled figures_tail (figures_numbers f) (10 ∷ [])) d₅ end
unfolding holes capital
figures-put f {d} {at = at} p₁ p₂ p₃ p₄ p₅ =
    let g₀ = none_pieced d at (figures_numbers f) (10 ∷ []) 0 figures_tail in
    let g₁ = field_put (bytes " (deductible ") _ _ g₀ refl refl p₁ 1 refl in
    let g₂ = field_put (bytes ") (cover ") _ _ g₁ refl refl p₂ 2 refl in
    let g₃ = field_put (bytes ") (recovered ") _ _ g₂ refl refl p₃ 3 refl in
    let g₄ = field_put (bytes ") (premium ") _ _ g₃ refl refl p₄ 4 refl in
    last-put (bytes "))") g₄ refl p₅

-- a line that was put into a buffer z of its own, and put from there
module _ {z l w : List ℕ} {end : ℕ} (p : Put z 0 w l end) (room : end ≤ length z) where
  line-is : take end l ≡ w
  line-is =
      let size : length w ≡ end = omega (arith, p.place) in
      rw (put_whole (omega (arith, size)) p) (take_at w (drop (length w) z) end size)

  pub line-size : end ≡ length (take end l)
  line-size = rw line-is (omega (arith, p.place))

  pub cut-put : {d d' : List ℕ} {at next : ℕ} → Put d at (take end l) d' next → Put d at w d' next
  cut-put q = rw line-is at q
