-- Document 01, Proportional treaties, with event limits as of document 02, Q-3: "The wordings we now install state a
-- treaty's event limit as ceded money".
-- Assumes nothing.
use Rattle.std.specs.Prelude.{cond, ◌||◌, List, [], ◌∷◌, ℕ, ◌+◌, ◌-◌, ◌*◌, min, eqb, leb, ltb}
use Rattle.lists.specs.Sums.{total}
use Rattle.arith.specs.Round.{rounded}
use Rattle.treaty.specs.declared.Treaty.{Treaty}
use Rattle.treaty.specs.declared.Loss.{Loss}
use Rattle.treaty.specs.declared.Cession.{Cession}

-- the two kinds, in the order of a table's line: (quota T (cede C) (capacity A) (event L))
abbrev pub quota_of : (t c a l : ℕ) → Treaty
quota_of t c a l = record { kind = 1; number = t; cede = c; capacity = a; retention = 0; lines = 0; limit = l }

-- (surplus T (retain R) (lines N) (event L))
abbrev pub surplus_of : (t r n l : ℕ) → Treaty
surplus_of t r n l = record { kind = 2; number = t; cede = 0; capacity = 0; retention = r; lines = n; limit = l }

-- (loss T E G)
abbrev pub loss_of : (t e g : ℕ) → Loss
loss_of t e g = record { treaty = t; maximum = e; amount = g }

-- quota share: g × cede / 10,000 if capacity is 0 or E ≤ capacity; otherwise g × cede × capacity / (10,000 × E)
unfoldable pub ceded_by_quota : (cede capacity e g : ℕ) → ℕ
ceded_by_quota cede capacity e g =
    cond (eqb capacity 0 || leb e capacity) (rounded (g * cede) 10000) (rounded (g * cede * capacity) (10000 * e))

-- surplus with retention r and n lines: 0 if E ≤ r; g × n × r / E if E > r × (1 + n); otherwise g × (E − r) / E
unfoldable pub ceded_by_surplus : (r n e g : ℕ) → ℕ
ceded_by_surplus r n e g =
    cond (leb e r) 0 (cond (ltb (r * (1 + n)) e) (rounded (g * n * r) e) (rounded (g * (e - r)) e))

-- "a loss is ceded as if there were no limit": what a treaty cedes of g at estimated maximum loss E; kind 1 is quota
-- share, kind 2 surplus, and no other cedes
unfoldable pub ceded_of : Treaty → (e g : ℕ) → ℕ
ceded_of t e g =
    cond (eqb t.kind 1) (ceded_by_quota t.cede t.capacity e g)
    (cond (eqb t.kind 2) (ceded_by_surplus t.retention t.lines e g) 0)

-- "then cut to the limit less what the treaty took earlier in the event; a limit of 0 is still none": limit − taken,
-- not below 0
unfoldable pub cut_to_limit : (limit taken c : ℕ) → ℕ
cut_to_limit limit taken c = cond (eqb limit 0) c (min c (limit - taken))

-- what a treaty cedes of one loss that comes after it took an amount in the event
unfoldable pub ceded_of_loss : Treaty → (taken : ℕ) → Loss → ℕ
ceded_of_loss t taken x = cut_to_limit t.limit taken (ceded_of t x.maximum x.amount)

-- that loss's cession: what is ceded, what is left of g, and what the treaty has then taken in the event
abbrev pub cession_of : Treaty → (taken : ℕ) → Loss → Cession
cession_of t taken x = record {
  ceded = ceded_of_loss t taken x;
  left = x.amount - ceded_of_loss t taken x;
  taken = taken + ceded_of_loss t taken x;
}

-- what a treaty cedes of losses in turn, after it took an amount in the event
abbrev pub cessions_from : (taken : ℕ) → Treaty → List Loss → List ℕ
cessions_from taken t [] = []
cessions_from taken t (x ∷ xs) = ceded_of_loss t taken x ∷ cessions_from (taken + ceded_of_loss t taken x) t xs

-- the losses of an event that are a treaty's own: those with its number
abbrev pub own_losses : Treaty → List Loss → List Loss
own_losses t [] = []
own_losses t (x ∷ xs) = cond (eqb x.treaty t.number) (x ∷ own_losses t xs) (own_losses t xs)

-- what a treaty cedes of an event's losses, in turn: before the first it has taken nothing
abbrev pub cessions : Treaty → List Loss → List ℕ
cessions t xs = cessions_from 0 t (own_losses t xs)

-- what a treaty took of losses of an event
abbrev pub taken_by : Treaty → List Loss → ℕ
taken_by t xs = total (cessions t xs)
