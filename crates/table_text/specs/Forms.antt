-- Document 01, The table text, with document 02's Q-2 and Q-4: the four forms of a table's lines, read and printed.
-- Assumes nothing.
use Rattle.std.specs.Prelude.{true, false, cond, Option, None, Some, option_map, List, [], ◌∷◌, ◌++◌, map}
use Rattle.std.specs.Prelude.{ℕ, zero, suc, ◌+◌, eqb, take, drop, get_or}
use Rattle.text.specs.Bytes.{bytes}
use Rattle.text.specs.Template.{filled, matched, line_numbers, numbers_by}
use Rattle.text.specs.Lines.{lines_of, joined}
use Rattle.treaty.specs.declared.Treaty.{Treaty}
use Rattle.treaty.specs.Treaty.{quota_of, surplus_of}
use Rattle.layer.specs.declared.terms.Terms.{Terms}
use Rattle.layer.specs.Layer.{terms_of, is_timed}
use Rattle.programme.specs.declared.contract.Contract.{Contract}
use Rattle.programme.specs.declared.contract.Contract.TheVariants.{Proportional, Risk, Cat}
use Rattle.programme.specs.Contract.{Contracts, contracts_in_order}

-- the templates, as document 01 prints the forms
abbrev pub quota_text : List ℕ
quota_text = bytes "(quota T (cede C) (capacity A) (event L))"

abbrev pub surplus_text : List ℕ
surplus_text = bytes "(surplus T (retain R) (lines N) (event L))"

-- A layer's form has as many rates as its K says: "the form becomes `(back K P Q1 .. QK)`", "a line whose rates are
-- not K in number is 2". Its beginning by the tier, one rate, and its placed share
abbrev pub risk_text : List ℕ
risk_text = bytes "(risk (band A L) (deduct D) (back K P"

abbrev pub cat_text : List ℕ
cat_text = bytes "(cat (band A L) (deduct D) (back K P"

abbrev pub rate_text : List ℕ
rate_text = bytes " Q"

abbrev pub end_text : List ℕ
end_text = bytes ") (placed S)"

-- "A layer's form may have `(time)` as its last item, after placed": the tail of its line without it, and with it
abbrev pub plain_tail : List ℕ
plain_tail = bytes ")"

abbrev pub time_tail : List ℕ
time_tail = bytes " (time))"

-- so many rates
unfoldable pub rates_text : ℕ → List ℕ
rates_text zero = []
rates_text (suc k) = rate_text ++ rates_text k

-- the form with k rates, up to its tail
abbrev pub layer_text : List ℕ → ℕ → List ℕ
layer_text begin k = begin ++ (rates_text k ++ end_text)

-- the contract that a form's numbers make, in the form's order
abbrev pub quota_from : List ℕ → Treaty
quota_from v = quota_of (get_or v 0 0) (get_or v 1 0) (get_or v 2 0) (get_or v 3 0)

abbrev pub surplus_from : List ℕ → Treaty
surplus_from v = surplus_of (get_or v 0 0) (get_or v 1 0) (get_or v 2 0) (get_or v 3 0)

abbrev pub terms_from : List ℕ → (w : ℕ) → Terms
terms_from v w =
    terms_of (get_or v 0 0) (get_or v 1 0) (get_or v 2 0) (get_or v 3 0) (get_or v 4 0) (take (get_or v 3 0) (drop 5 v))
    (get_or v (5 + get_or v 3 0) 0) w

-- a layer's numbers in a line that is its form with as many rates as the line's own K, and what is left of the line
unfoldable pub layer_numbers : List ℕ → List ℕ → Option (List ℕ × List ℕ)
layer_numbers begin s =
    elim (matched [] begin s) [ None ↦ None | Some p ↦ matched [] (layer_text begin (get_or p.0 3 0)) s ]

-- what is left of the line is a tail: 0 for the one without (time), 1 for the one with it
unfoldable pub tail_time : List ℕ → Option ℕ
tail_time s =
    elim (line_numbers plain_tail s) [
      | Some v ↦ Some 0
      | None ↦ elim (line_numbers time_tail s) [ Some v ↦ Some 1 | None ↦ None ]
    ]

-- a layer's terms in a line that is its form
unfoldable pub layer_terms : List ℕ → List ℕ → Option Terms
layer_terms begin s =
    elim (layer_numbers begin s) [
      | None ↦ None
      | Some p ↦ elim (tail_time p.1) [ None ↦ None | Some w ↦ Some (terms_from p.0 w) ]
    ]

-- what a line is where a treaty's template finds its numbers in it; None is no form
abbrev pub quota_form : Option (List ℕ) → Option Contract
quota_form = option_map (λ v. Proportional (quota_from v))

abbrev pub surplus_form : Option (List ℕ) → Option Contract
surplus_form = option_map (λ v. Proportional (surplus_from v))

-- "A line's first word settles its kind": 1 quota, 2 surplus, 3 risk, 4 cat, the only form that a line with this
-- letter after the bracket (40) can be; 0 where it can be none.
abbrev pub letter_kind : ℕ → ℕ
letter_kind b = cond (eqb b 113) 1 (cond (eqb b 115) 2 (cond (eqb b 114) 3 (cond (eqb b 99) 4 0)))

unfoldable pub kind_of : List ℕ → ℕ
kind_of s = cond (eqb (get_or s 0 0) 40) (letter_kind (get_or s 1 0)) 0

-- what a line of a kind is
unfoldable pub form_of_kind : ℕ → List ℕ → Option Contract
form_of_kind k s =
    cond (eqb k 1) (quota_form (numbers_by quota_text s))
    (cond (eqb k 2) (surplus_form (numbers_by surplus_text s))
    (cond (eqb k 3) (option_map Risk (layer_terms risk_text s))
    (cond (eqb k 4) (option_map Cat (layer_terms cat_text s)) None)))

-- what a line is: a contract, or none of the four forms
unfoldable pub form_of : List ℕ → Option Contract
form_of s = form_of_kind (kind_of s) s

-- the forms of a text's lines; bytes after the last line feed are no form
abbrev pub line_form : Option (List ℕ) → Option Contract
line_form None = None
line_form (Some l) = form_of l

abbrev pub forms_of : List ℕ → List (Option Contract)
forms_of s = map line_form (lines_of s)

-- a contract's numbers in its form's order
abbrev pub quota_numbers : Treaty → List ℕ
quota_numbers t = t.number ∷ t.cede ∷ t.capacity ∷ t.limit ∷ []

abbrev pub surplus_numbers : Treaty → List ℕ
surplus_numbers t = t.number ∷ t.retention ∷ t.lines ∷ t.limit ∷ []

abbrev pub terms_numbers : Terms → List ℕ
terms_numbers l =
    l.attachment ∷ l.limit ∷ l.deductible ∷ l.reinstatements ∷ l.premium
    ∷ (take l.reinstatements l.rates ++ (l.placed ∷ []))

-- a treaty's line; kind 2 is surplus
unfoldable pub treaty_line : Treaty → List ℕ
treaty_line t =
    elim (eqb t.kind 2)
    [ true ↦ filled surplus_text (surplus_numbers t) [] | false ↦ filled quota_text (quota_numbers t) [] ]

-- the tail of a layer's line
abbrev pub tail_of : Terms → List ℕ
tail_of l = cond (is_timed l) time_tail plain_tail

-- a layer's line, by the beginning of its tier: its form with K rates, and its tail
abbrev pub terms_line : List ℕ → Terms → List ℕ
terms_line begin l = filled (layer_text begin l.reinstatements) (terms_numbers l) (tail_of l)

-- a contract's line
abbrev pub line_of : Contract → List ℕ
line_of (Proportional t) = treaty_line t
line_of (Risk l) = terms_line risk_text l
line_of (Cat l) = terms_line cat_text l

-- the table text of some contracts: a line for each, in the table's order
abbrev pub table_of : Contracts → List ℕ
table_of c = joined (map line_of (contracts_in_order c))
