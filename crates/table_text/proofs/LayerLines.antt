-- A layer's line, with as many rates as its K and one of two tails: printed and read back, read and printed as it
-- stood, and of few bytes.
-- Assumes nothing.
use mathlib.Core.Path.{◌≡◌, refl, sym, ap, ◌∙◌}
use mathlib.Core.Bool.{Bool, true, false, cond}
use mathlib.Core.List.{List, [], ◌∷◌, ◌++◌}
use Rattle.std.specs.Prelude.{Option, None, Some}
use Prim.Native.Nat.{ℕ, zero, suc, ◌+◌, ◌*◌, ◌≤◌}
use native.Mathlib.Omega.{arith}
use lib.Dec.{eqb, ltb, lit≤}
use lib.ListN.{length, take, drop, get_or, replicate, length-append, length-drop, get_or-append}
use lib.Seq.{length-take-le, take_all, take-suc, take_at, take-take, get_or_at, get_or-drop}
use Rattle.lists.specs.Each.{Each}
use Rattle.lists.specs.Chains.{every}
use Rattle.lists.proofs.Each.{each_append, each_so, each_take}
use Rattle.lists.proofs.Sums.{sum-append}
use Rattle.lists.proofs.Bounds.{sum-le}
use Rattle.text.specs.Number.{digit_of, digits, digits_in}
use Rattle.text.specs.Template.{capital, holes, filled, matched, whole_of, line_numbers}
use Rattle.text.proofs.Digits.{Readable, Ended}
use Rattle.text.proofs.Forms.{parted, separated, parted-ended, matched-filled, matched-read, line_read}
use Rattle.text.proofs.Parts.{filled-parts, onward, matched-parts}
use Rattle.text.proofs.Pieces.{filled-append}
use Rattle.text.proofs.Lengths.{digits-length, filled-size}
use Rattle.text.proofs.Feeds.{feedless}
use Rattle.layer.specs.declared.terms.Terms.{Terms}
use Rattle.layer.specs.Layer.{rate_places, terms_of, is_timed}
use Rattle.layer.specs.Ranges.{InRange}
use Rattle.table_text.specs.Forms.{risk_text, cat_text, end_text, plain_tail, time_tail, rates_text, layer_text}
use Rattle.table_text.specs.Forms.{terms_from, layer_numbers, tail_time, layer_terms, terms_numbers, tail_of, terms_line}

six : (k : ℕ) → suc (suc (suc (suc (suc (k + 1))))) ≡ k + 6
six k = omega arith

-- as many numbers as rates
pub rates-holes : (k : ℕ) → holes (rates_text k) ≡ k
unfolding rates_text holes capital
rates-holes zero = refl
rates-holes (suc k) = ap suc (rates-holes k)

-- what follows the beginning of a line with k rates, up to its tail
abbrev rest : ℕ → List ℕ
rest k = rates_text k ++ end_text

pub rest-parted : (k : ℕ) → parted (rest k) ≡ true
unfolding rates_text parted capital digit_of
rest-parted zero = refl
rest-parted (suc k) = refl

pub rest-separated : (k : ℕ) → separated (rest k) ≡ true
unfolding rates_text separated parted capital digit_of
rest-separated zero = refl
rest-separated (suc k) = rw (rest-parted k, rest-separated k)

-- as many numbers as rates, and one more
pub rest-holes : (k : ℕ) → holes (rest k) ≡ k + 1
unfolding rates_text holes capital
rest-holes zero = refl
rest-holes (suc k) = ap suc (rest-holes k) ∙ omega arith

rest-length : (k : ℕ) → length (rest k) ≡ 2 * k + 12
unfolding rates_text
rest-length zero = refl
rest-length (suc k) = omega (arith, rest-length k)

-- no line feed and nothing but bytes
pub rest-feedless : (k : ℕ) → feedless (rest k) ≡ true
unfolding rates_text feedless
rest-feedless zero = refl
rest-feedless (suc k) = rest-feedless k

pub rest-bytes : (k : ℕ) → every (λ (b : ℕ). ltb b 256) (rest k) ≡ true
unfolding rates_text
rest-bytes zero = refl
rest-bytes (suc k) = rest-bytes k

-- the first five numbers of a list, by their places
five : (v : List ℕ) → 5 ≤ length v
    → v ≡ get_or v 0 0 ∷ get_or v 1 0 ∷ get_or v 2 0 ∷ get_or v 3 0 ∷ get_or v 4 0 ∷ drop 5 v
five [] l = absurd (omega arith)
five (a ∷ []) l = absurd (omega arith)
five (a ∷ b ∷ []) l = absurd (omega arith)
five (a ∷ b ∷ c ∷ []) l = absurd (omega arith)
five (a ∷ b ∷ c ∷ d ∷ []) l = absurd (omega arith)
five (a ∷ b ∷ c ∷ d ∷ e ∷ v) l = refl

-- numbers of which the first k were taken, and put into twenty places, are the first k there
first-places : (k : ℕ) (qs : List ℕ) → k ≤ 20 → k ≤ length qs → take k (rate_places (take k qs)) ≡ take k qs
first-places k qs h l =
    take-take k 20 (take k qs ++ replicate 20 0) h ∙ take_at (take k qs) (replicate 20 0) k (length-take-le k qs l)

-- the last of k + 1 numbers stands after the first k
last-after : (k : ℕ) (w : List ℕ) → length w ≡ k + 1 → take k w ++ (get_or w k 0 ∷ []) ≡ w
last-after k w l = sym (take-suc w k 0 (omega arith)) ∙ take_all (suc k) w (omega arith)

-- the numbers of the terms that a line's numbers make are these numbers
terms-listed : (v : List ℕ) (w : ℕ) → length v ≡ get_or v 3 0 + 6 → get_or v 3 0 ≤ 20
    → terms_numbers (terms_from v w) ≡ v
terms-listed v w l h =
    let k = get_or v 3 0 in
    let long : length (drop 5 v) ≡ k + 1 = omega (arith, length-drop 5 v) in
    sym (five v (omega arith) ∙ ap (λ (x : List ℕ). get_or v 0 0 ∷ get_or v 1 0 ∷ get_or v 2 0 ∷ k ∷ get_or v 4 0 ∷ x)
    (sym (last-after k (drop 5 v) long)
    ∙ rw (first-places k (drop 5 v) h (omega arith), get_or-drop 5 v k 0)))

-- the terms of a line's numbers, by their names
pub terms_of_lem : (a l d k p : ℕ) (qs : List ℕ) (s w : ℕ) → length qs ≡ k
    → terms_from (a ∷ l ∷ d ∷ k ∷ p ∷ (qs ++ (s ∷ []))) w ≡ terms_of a l d k p qs s w
terms_of_lem a l d k p qs s w e =
    let v = a ∷ l ∷ d ∷ k ∷ p ∷ (qs ++ (s ∷ [])) in
    let rates : take k (qs ++ (s ∷ [])) ≡ qs = take_at qs (s ∷ []) k e in
    let placed : get_or v (5 + k) 0 ≡ s = sym (get_or-drop 5 v k 0) ∙ get_or_at qs s [] 0 k e in
    λ i. terms_of a l d k p (rates i) (placed i) w

-- the terms that the numbers of terms make are these terms
terms-back : (l : Terms) → InRange l → rate_places (take l.reinstatements l.rates) ≡ l.rates
    → terms_from (terms_numbers l) l.time ≡ l
terms-back l r e =
    let k = l.reinstatements in
    let long = length-take-le k l.rates (omega (arith, r.reinstatements, r.places)) in
    terms_of_lem l.attachment l.limit l.deductible k l.premium (take k l.rates) l.placed l.time long
    ∙ (λ i. record {
      attachment = l.attachment;
      limit = l.limit;
      deductible = l.deductible;
      reinstatements = k;
      premium = l.premium;
      placed = l.placed;
      rates = e i;
      time = l.time;
    })

-- a layer's numbers: those of the beginning of its line, and those after it
abbrev firsts : Terms → List ℕ
firsts l = l.attachment ∷ l.limit ∷ l.deductible ∷ l.reinstatements ∷ l.premium ∷ []

abbrev lasts : Terms → List ℕ
lasts l = take l.reinstatements l.rates ++ (l.placed ∷ [])

-- within their ranges they have at most sixteen digits, rates and a placed share at most five, and there are as many
-- as the form has
module _ (l : Terms) (r : InRange l) where
  firsts-readable : Each Readable (firsts l)
  firsts-readable = (
    omega (arith, r.attachment),
    (
      omega (arith, r.limit-high),
      (omega (arith, r.deductible), (omega (arith, r.reinstatements), (omega (arith, r.premium), tt))),
    ),
  )

  lasts-readable : Each Readable (lasts l)
  lasts-readable =
      each_append Readable (take l.reinstatements l.rates) (l.placed ∷ [])
      (each_take Readable l.reinstatements l.rates
      (each_so _ Readable (λ q h. omega arith) l.rates r.rates))
      (omega (arith, r.placed), tt)

  rates-long : length (take l.reinstatements l.rates) ≡ l.reinstatements
  rates-long = length-take-le l.reinstatements l.rates (omega (arith, r.reinstatements, r.places))

  digits-few : digits_in (terms_numbers l) ≤ 5 * l.reinstatements + 64
  digits-few =
      let k = l.reinstatements in
      let qs = take k l.rates in
      let rates =
      sum-le (λ (q : ℕ). q ≤ 20000) (λ (q : ℕ). length (digits q)) 5 (λ q h. digits-length 4 q (omega arith)) qs
      (each_take _ k l.rates r.rates) in
      omega (
        arith,
        sum-append (λ (q : ℕ). length (digits q)) qs (l.placed ∷ []),
        rates,
        rates-long,
        digits-length 13 l.attachment (omega (arith, r.attachment)),
        digits-length 13 l.limit (omega (arith, r.limit-high)),
        digits-length 15 l.deductible (omega (arith, r.deductible)),
        digits-length 1 k (omega (arith, r.reinstatements)),
        digits-length 12 l.premium (omega (arith, r.premium)),
        digits-length 4 l.placed (omega (arith, r.placed)),
      )

  lasts-long : length (lasts l) ≡ l.reinstatements + 1
  lasts-long = length-append (take l.reinstatements l.rates) (l.placed ∷ []) ∙ rw rates-long

-- a layer's numbers, by what the beginning of its line finds
module _ (begin s : List ℕ) where
  pub begin_missing : matched [] begin s ≡ None → layer_numbers begin s ≡ None
  unfolding layer_numbers
  begin_missing e = simp (layer_numbers, e)

  pub begin_found : (ns y : List ℕ) → matched [] begin s ≡ Some (ns, y)
      → layer_numbers begin s ≡ matched [] (layer_text begin (get_or ns 3 0)) s
  unfolding layer_numbers
  begin_found ns y e = simp (layer_numbers, e)

-- what is left of a layer's line, by the tails
module _ (s : List ℕ) where
  pub tail-plain : (v : List ℕ) → line_numbers plain_tail s ≡ Some v → tail_time s ≡ Some 0
  unfolding tail_time
  tail-plain v e = simp (tail_time, e)

  module _ (e : line_numbers plain_tail s ≡ None) where
    pub tail-timed : (v : List ℕ) → line_numbers time_tail s ≡ Some v → tail_time s ≡ Some 1
    unfolding tail_time
    tail-timed v f = simp (tail_time, e, f)

    pub tail-neither : line_numbers time_tail s ≡ None → tail_time s ≡ None
    unfolding tail_time
    tail-neither f = simp (tail_time, e, f)

-- what is read as a tail is that tail
pub tail-read : (s : List ℕ) (w : ℕ) → tail_time s ≡ Some w → s ≡ cond (eqb w 1) time_tail plain_tail
unfolding filled capital
tail-read s w e = by-plain (line_numbers plain_tail s) refl
  where
    by-time : line_numbers plain_tail s ≡ None → (o : Option (List ℕ)) → line_numbers time_tail s ≡ o
        → s ≡ cond (eqb w 1) time_tail plain_tail
    by-time p None q =
        let no : None ≡ Some w = sym (tail-neither s p q) ∙ e in
        let z : ◌≡◌ {A = ℕ} 0 1 = cc in absurd (omega arith)
    by-time p (Some v) q =
        let same : Some 1 ≡ Some w = sym (tail-timed s p v q) ∙ e in
        let one : 1 ≡ w = cc in
        (line_read time_tail s v q).0 ∙ rw (← one)

    by-plain : (o : Option (List ℕ)) → line_numbers plain_tail s ≡ o → s ≡ cond (eqb w 1) time_tail plain_tail
    by-plain None p = by-time p (line_numbers time_tail s) refl
    by-plain (Some v) p =
        let same : Some 0 ≡ Some w = sym (tail-plain s v p) ∙ e in
        let nought : 0 ≡ w = cc in
        (line_read plain_tail s v p).0 ∙ rw (← nought)

-- the tail of a layer's line is read back
tail-printed : (l : Terms) → l.time ≤ 1 → tail_time (tail_of l) ≡ Some l.time
unfolding tail_time line_numbers whole_of matched capital
tail-printed l h = by-time l.time h
  where
    by-time : (w : ℕ) → w ≤ 1 → tail_time (cond (eqb w 1) time_tail plain_tail) ≡ Some w
    by-time zero h = refl
    by-time (suc zero) h = refl
    by-time (suc (suc w)) h = absurd (omega arith)

-- what holds of both tails holds of a layer's: it begins with no digit, and has at most eight bytes
pub of_tails : (P : List ℕ → Type 0) → P plain_tail → P time_tail → (l : Terms) → P (tail_of l)
of_tails P plain timed l = by-time (is_timed l)
  where
    by-time : (b : Bool) → P (cond b time_tail plain_tail)
    by-time true = timed
    by-time false = plain

tail-ended : (l : Terms) → Ended (tail_of l)
unfolding digit_of
tail-ended = of_tails Ended (lit≤ tt) (lit≤ tt)

tail-short : (l : Terms) → length (tail_of l) ≤ 8
tail-short = of_tails (λ s. length s ≤ 8) (lit≤ tt) (lit≤ tt)

-- a layer's terms, by its numbers and what is left
module _ (begin s : List ℕ) where
  pub numbers-missing : layer_numbers begin s ≡ None → layer_terms begin s ≡ None
  unfolding layer_terms
  numbers-missing e = simp (layer_terms, e)

  module _ (v y : List ℕ) (e : layer_numbers begin s ≡ Some (v, y)) where
    pub tail-missing : tail_time y ≡ None → layer_terms begin s ≡ None
    unfolding layer_terms
    tail-missing f = simp (layer_terms, e, f)

    pub terms-found : (w : ℕ) → tail_time y ≡ Some w → layer_terms begin s ≡ Some (terms_from v w)
    unfolding layer_terms
    terms-found w f = simp (layer_terms, e, f)

-- The beginning of a tier's lines: five numbers, none followed by a number or a digit, and so with rates after it.
pub record Beginning (begin : List ℕ) : Type 0 where
  separate : separated begin ≡ true
  count : holes begin ≡ 5
  short : length begin ≤ 37
  separate-all : (k : ℕ) → separated (layer_text begin k) ≡ true
  count-all : (k : ℕ) → holes (layer_text begin k) ≡ k + 6

pub risk-begins : Beginning risk_text
unfolding separated parted digit_of capital holes
risk-begins = record {
  separate = refl;
  count = refl;
  short = lit≤ tt;
  separate-all = λ k. rw (rest-parted k, rest-separated k);
  count-all = λ k. ap (λ (n : ℕ). suc (suc (suc (suc (suc n))))) (rest-holes k) ∙ six k;
}

pub cat-begins : Beginning cat_text
unfolding separated parted digit_of capital holes
cat-begins = record {
  separate = refl;
  count = refl;
  short = lit≤ tt;
  separate-all = λ k. rw (rest-parted k, rest-separated k);
  count-all = λ k. ap (λ (n : ℕ). suc (suc (suc (suc (suc n))))) (rest-holes k) ∙ six k;
}

module _ (begin : List ℕ) (b : Beginning begin) where
  -- what is read of a line as a layer's form is that form with its own numbers and as many rates as its K
  numbers-read : (s v y : List ℕ) → layer_numbers begin s ≡ Some (v, y)
      → (s ≡ filled (layer_text begin (get_or v 3 0)) v y) × (length v ≡ get_or v 3 0 + 6)
  numbers-read s v y e = by_begin (matched [] begin s) refl
    where
      by_begin : (o : Option (List ℕ × List ℕ)) → matched [] begin s ≡ o
          → (s ≡ filled (layer_text begin (get_or v 3 0)) v y) × (length v ≡ get_or v 3 0 + 6)
      by_begin None q =
          let no : ◌≡◌ {A = Option (List ℕ × List ℕ)} None (Some (v, y)) = sym (begin_missing begin s q) ∙ e in
          let z : ◌≡◌ {A = ℕ} 0 1 = cc in absurd (omega arith)
      by_begin (Some p) q =
          let k = get_or p.0 3 0 in
          let all = sym (begin_found begin s p.0 p.1 q) ∙ e in
          let after = sym (ap (onward [] (rest k)) q) ∙ sym (matched-parts begin (rest k) [] s) ∙ all in
          let first = matched-read begin [] s p.0 p.1 q in
          let more = matched-read (rest k) p.0 p.1 v y after in
          let whole = matched-read (layer_text begin k) [] s v y all in
          let long : length p.0 ≡ 5 = ap length first.read ∙ first.count ∙ b.count in
          let same : get_or v 3 0 ≡ k =
          ap (λ (x : List ℕ). get_or x 3 0) more.read
          ∙ get_or-append p.0 more.numbers 0 3 (omega arith) in
          let these : v ≡ whole.numbers = whole.read in
          rw same (
            whole.text ∙ ap (λ (x : List ℕ). filled (layer_text begin k) x y) (sym these),
            ap length these ∙ whole.count ∙ b.count-all k,
          )

  -- a line that is read as terms is their line, where its rates are at most twenty
  pub layer-read : (s : List ℕ) (l : Terms) → layer_terms begin s ≡ Some l → l.reinstatements ≤ 20
      → s ≡ terms_line begin l
  layer-read s l e h = by-numbers (layer_numbers begin s) refl
    where
      by-numbers : (o : Option (List ℕ × List ℕ)) → layer_numbers begin s ≡ o → s ≡ terms_line begin l
      by-numbers None q =
          let no : None ≡ Some l = sym (numbers-missing begin s q) ∙ e in
          let z : ◌≡◌ {A = ℕ} 0 1 = cc in absurd (omega arith)
      by-numbers (Some p) q = by-tail (tail_time p.1) refl
        where
          by-tail : (o : Option ℕ) → tail_time p.1 ≡ o → s ≡ terms_line begin l
          by-tail None t =
              let no : None ≡ Some l = sym (tail-missing begin s p.0 p.1 q t) ∙ e in
              let z : ◌≡◌ {A = ℕ} 0 1 = cc in absurd (omega arith)
          by-tail (Some w) t =
              let same : Some (terms_from p.0 w) ≡ Some l = sym (terms-found begin s p.0 p.1 q w t) ∙ e in
              let these : terms_from p.0 w ≡ l = cc in
              let r = numbers-read s p.0 p.1 q in
              let few : get_or p.0 3 0 ≤ 20 = omega (arith, ap (λ (x : Terms). x.reinstatements) these) in
              let listed = terms-listed p.0 w r.1 few in
              let tail = tail-read p.1 w t in
              r.0
              ∙ (λ i. filled (layer_text begin (get_or p.0 3 0)) (sym listed i) (tail i))
              ∙ ap (terms_line begin) these

  module _ (l : Terms) (r : InRange l) where
    numbers-long : length (terms_numbers l) ≡ holes (layer_text begin l.reinstatements)
    numbers-long = omega (arith, lasts-long l r, b.count-all l.reinstatements)

    -- the line of terms within their ranges is read as their numbers, and its tail is left
    numbers-printed : layer_numbers begin (terms_line begin l) ≡ Some (terms_numbers l, tail_of l)
    numbers-printed =
        let k = l.reinstatements in
        let w = filled (rest k) (lasts l) (tail_of l) in
        let parts : terms_line begin l ≡ filled begin (firsts l) w =
        filled-parts begin (rest k) (firsts l) (lasts l) (tail_of l) (sym b.count) in
        let ended = parted-ended (rest k) (lasts l) (tail_of l) (rest-parted k) (tail-ended l) in
        let first =
        ap (matched [] begin) parts
        ∙ matched-filled begin (firsts l) [] w b.separate (sym b.count) (firsts-readable l r) ended in
        begin_found begin (terms_line begin l) (firsts l) w first
        ∙ matched-filled (layer_text begin k) (terms_numbers l) [] (tail_of l) (b.separate-all k) numbers-long
        (each_append Readable (firsts l) (lasts l) (firsts-readable l r) (lasts-readable l r)) (tail-ended l)

    -- and so as the terms
    pub layer-printed : rate_places (take l.reinstatements l.rates) ≡ l.rates
        → layer_terms begin (terms_line begin l) ≡ Some l
    layer-printed e =
        terms-found begin (terms_line begin l) (terms_numbers l) (tail_of l) numbers-printed l.time
        (tail-printed l r.time)
        ∙ ap Some (terms-back l r e)

    -- it has at most 240 bytes
    pub layer-short : length (terms_line begin l) ≤ 240
    layer-short =
        let k = l.reinstatements in
        let t = layer_text begin k in
        let size = filled-size t (terms_numbers l) numbers-long in
        let long : length t ≡ length begin + (2 * k + 12) =
        length-append begin (rest k) ∙ rw (rest-length k) in
        let all : length (terms_line begin l) ≡ length (filled t (terms_numbers l) []) + length (tail_of l) =
        ap length (filled-append t (terms_numbers l) (tail_of l))
        ∙ length-append (filled t (terms_numbers l) []) (tail_of l) in
        omega (arith, all, tail-short l, size, long, b.short, lasts-long l r, digits-few l r, r.reinstatements)
