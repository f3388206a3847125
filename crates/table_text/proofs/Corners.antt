-- Tables read and written by the definitions: document 01's lines, and the ends of its rules.
-- Assumes nothing.
use mathlib.Core.Path.{◌≡◌, refl}
use mathlib.Core.List.{List, [], ◌∷◌, ◌++◌, map}
use Rattle.std.specs.Prelude.{Some, None}
use Prim.Native.Nat.{ℕ}
use Prim.Native.String.{String}
use lib.ListN.{replicate}
use Rattle.text.specs.Bytes.{bytes}
use Rattle.text.specs.Number.{printed_by, printed, digit_of, read_on, number}
use Rattle.text.specs.Template.{capital, filled, matched, whole_of, line_numbers}
use Rattle.text.specs.Lines.{lines_of, joined}
use Rattle.treaty.specs.declared.Treaty.{Treaty}
use Rattle.layer.specs.declared.terms.Terms.{Terms}
use Rattle.layer.specs.Layer.{terms_of}
use Rattle.treaty.specs.Treaty.{quota_of}
use Rattle.answer.specs.Outcome.{refused, written, text_only, fitted, answer_of, buffer_after}
use Rattle.programme.specs.declared.contract.Programme.{Programme}
use Rattle.programme.specs.declared.contract.Contract.TheVariants.{Proportional, Risk, Cat}
use Rattle.programme.specs.Contract.{Contracts, no_contracts, no_treaty, no_terms, programme_of}
use Rattle.programme.specs.Ranges.{outside, treaty_outside, rates_outside, terms_outside, treaty_not_zero, terms_not_zero}
use Rattle.programme.specs.Rules.{treaty_fault, layer_fault}
use Rattle.programme.specs.Valid.{valid_treaties, valid_layers, valid}
use Rattle.programme.proofs.Corners.{zero_terms, nothing_held, all_contracts, all_held, eight_terms, with_risk}
use Rattle.table_text.specs.declared.Reading.{Reading}
use Rattle.table_text.specs.Forms.{rates_text, layer_numbers, tail_time, layer_terms}
use Rattle.table_text.specs.Forms.{kind_of, form_of_kind, form_of, treaty_line}
use Rattle.table_text.specs.Read.{refused_at, read_as, read_from, read_of}
use Rattle.table_text.specs.Write.{write_of}

-- the text of some lines, and what it reads to
abbrev text : List String → List ℕ
text ls = joined (map bytes ls)

abbrev reading : List String → Reading
reading ls = read_of (text ls)

-- the table of document 01's H1, its lines rewritten as Q-2 says
abbrev sidney : List String
sidney =
    "(cat (band 25000000 75000000) (deduct 75000000) (back 0 0) (placed 10000))"
    ∷ "(cat (band 100000000 150000000) (deduct 0) (back 1 75000000 5000) (placed 8000))"
    ∷ "(cat (band 250000000 150000000) (deduct 0) (back 1 30000000 10000) (placed 7200))" ∷ []

abbrev sidney_contracts : Contracts
sidney_contracts = record {
  treaties = [];
  risk = [];
  cat = terms_of 25000000 75000000 75000000 0 0 [] 10000 0 ∷ terms_of 100000000 150000000 0 1 75000000 (5000 ∷ []) 8000 0
      ∷ terms_of 250000000 150000000 0 1 30000000 (10000 ∷ []) 7200 0 ∷ [];
}

-- eight risk layers, each at the end of the band before
abbrev eight_risks : List String
eight_risks =
    "(risk (band 0 10) (deduct 0) (back 0 0) (placed 3333))"
    ∷ "(risk (band 10 20) (deduct 0) (back 0 0) (placed 3333))"
    ∷ "(risk (band 30 5) (deduct 0) (back 0 0) (placed 3333))"
    ∷ "(risk (band 35 1) (deduct 0) (back 0 0) (placed 3333))"
    ∷ "(risk (band 36 4) (deduct 0) (back 0 0) (placed 3333))"
    ∷ "(risk (band 40 2) (deduct 0) (back 0 0) (placed 3333))"
    ∷ "(risk (band 42 8) (deduct 0) (back 0 0) (placed 3333))"
    ∷ "(risk (band 50 50) (deduct 0) (back 0 0) (placed 3333))" ∷ []

-- eight cat layers, each at the end of the band before
abbrev eight_cats : List String
eight_cats =
    "(cat (band 7 3) (deduct 0) (back 0 0) (placed 7200))"
    ∷ "(cat (band 10 20) (deduct 0) (back 0 0) (placed 7200))"
    ∷ "(cat (band 30 5) (deduct 0) (back 0 0) (placed 7200))"
    ∷ "(cat (band 35 1) (deduct 0) (back 0 0) (placed 7200))"
    ∷ "(cat (band 36 4) (deduct 0) (back 0 0) (placed 7200))"
    ∷ "(cat (band 40 2) (deduct 0) (back 0 0) (placed 7200))"
    ∷ "(cat (band 42 8) (deduct 0) (back 0 0) (placed 7200))"
    ∷ "(cat (band 50 150) (deduct 0) (back 0 0) (placed 7200))" ∷ []

-- programmes that hold nothing but these places of another kind than risk, n of them used
abbrev with_treaties : ℕ → List Treaty → Programme
with_treaties n ts = record {
  treaties = record { places = ts; count = n };
  risk = (programme_of no_contracts).risk;
  cat = (programme_of no_contracts).cat;
}

abbrev with_cat : ℕ → List Terms → Programme
with_cat n ls = record {
  treaties = (programme_of no_contracts).treaties;
  risk = (programme_of no_contracts).risk;
  cat = record { places = ls; count = n };
}

-- one place filled, the others unused
abbrev alone : Terms → List Terms
alone l = l ∷ replicate 7 no_terms

abbrev one_treaty : (kind retention : ℕ) → List Treaty
one_treaty k r =
    record { kind = k; number = 1; cede = 4000; capacity = 0; retention = r; lines = 0; limit = 0 }
    ∷ replicate 7 no_treaty

-- the programme of every form, but with a cat layer whose limit is 0: no table text reads to it
abbrev not_lawful : Programme
not_lawful = record {
  treaties = all_held.treaties;
  risk = all_held.risk;
  cat = record {
    places = terms_of 40 0 0 1 1000000000000 (5000 ∷ []) 7200 0 ∷ replicate 7 zero_terms;
    count = 1;
  };
}

-- the 318 bytes of the table of every form
abbrev all_bytes : List ℕ
all_bytes =
    bytes "(quota 2 (cede 4000) (capacity 20000) (event 15000))\n"
    ++ bytes "(surplus 5 (retain 10000) (lines 3) (event 0))\n"
    ++ bytes "(risk (band 50 51) (deduct 7) (back 1 9 20000) (placed 3333))\n"
    ++ bytes "(cat (band 40 60) (deduct 0) (back 20 1000000000000 5000 1 20000 7 10000 3333 9999 12"
    ++ bytes " 15000 2 750 19999 40 6000 8 2500 11111 90 17 3) (placed 7200) (time))\n"

-- two lines of 42 bytes, the second with the T of the first
abbrev twice : List ℕ
twice =
    bytes "(quota 3 (cede 0) (capacity 0) (event 0))\n" ++ bytes "(quota 3 (cede 0) (capacity 0) (event 1))\n"

-- a text of one cat layer's line, by what is in its back or by what follows its placed share, and the programme of such
-- a layer: its K, its premium, its rates in twenty places, and 1 with (time)
abbrev back_text : String → List ℕ
back_text back = bytes "(cat (band 40 60) (deduct 11) (back " ++ bytes back ++ bytes ") (placed 7200))\n"

abbrev ended_by : String → List ℕ
ended_by tail =
    bytes "(cat (band 40 60) (deduct 11) (back 1 5000 10000) (placed 7200)" ++ bytes tail ++ bytes "\n"

abbrev one_cat : (k p : ℕ) → List ℕ → (w : ℕ) → Programme
one_cat k p qs w =
    with_cat 1 (record {
      attachment = 40;
      limit = 60;
      deductible = 11;
      reinstatements = k;
      premium = p;
      placed = 7200;
      rates = qs;
      time = w;
    } ∷ replicate 7 zero_terms)

-- a risk layer without a rate and with (time)
abbrev timed_risk : Programme
timed_risk =
    with_risk 1 (record {
      attachment = 7;
      limit = 3;
      deductible = 0;
      reinstatements = 0;
      premium = 9;
      placed = 3333;
      rates = replicate 20 0;
      time = 1;
    } ∷ replicate 7 zero_terms)

-- a place that holds 0 but for (time)
abbrev only_time : Terms
only_time = record {
  attachment = 0;
  limit = 0;
  deductible = 0;
  reinstatements = 0;
  premium = 0;
  placed = 0;
  rates = replicate 20 0;
  time = 1;
}

pub record Corners : Type 0 where
  -- what a line is: a contract by its kind, the same terms in either tier, or no form
  pub lines-read : map form_of
      (bytes "(quota 2 (cede 4000) (capacity 7) (event 9))" ∷ bytes "(risk (band 7 1) (deduct 2) (back 1 3 4) (placed 5))"
      ∷ bytes "(cat (band 7 1) (deduct 2) (back 1 3 4) (placed 5))" ∷ bytes "(risk (band 7 1) (deduct 2) (back 1 3) (placed 5))"
      ∷ [])
      ≡ Some (Proportional (quota_of 2 4000 7 9)) ∷ Some (Risk (terms_of 7 1 2 1 3 (4 ∷ []) 5 0))
      ∷ Some (Cat (terms_of 7 1 2 1 3 (4 ∷ []) 5 0)) ∷ None ∷ []
  -- What reading answers, typed out to the places: a programme with its contracts in the first of eight ..
  pub answer-read : read_of all_bytes ≡ record { refusal = 0; line = 0; programme = all_held }
  pub answer-empty : read_of [] ≡ record { refusal = 0; line = 0; programme = nothing_held }
  -- .. or a refusal, its line and the programme without contracts, also where lines before it were read
  pub answer-form : read_of (all_bytes ++ bytes "none\n") ≡ record { refusal = 2; line = 5; programme = nothing_held }
  pub answer-range : read_of (bytes "(quota 9 (cede 0) (capacity 0) (event 0))\n")
      ≡ record { refusal = 3; line = 1; programme = nothing_held }
  pub answer-order : read_of twice ≡ record { refusal = 4; line = 2; programme = nothing_held }
  pub answer_band : read_of (bytes "(risk (band 7 3) (deduct 0) (back 0 0) (placed 0))\n"
      ++ bytes "(cat (band 50 50) (deduct 0) (back 0 0) (placed 0))\n"
      ++ bytes "(cat (band 99 1) (deduct 0) (back 0 0) (placed 0))\n")
      ≡ record { refusal = 5; line = 3; programme = nothing_held }
  -- 84 bytes of two lines, and others after them up to 8,192: judged by its lines, and by 1 with one byte more
  pub answer_not_long : read_of (twice ++ replicate 8108 120)
      ≡ record { refusal = 4; line = 2; programme = nothing_held }
  pub answer-long : read_of (twice ++ replicate 8109 120) ≡ record { refusal = 1; line = 0; programme = nothing_held }
  -- what writing answers, and the buffer after it: the text before the bytes left, or as lent
  pub answer-written : answer_of (write_of all_held 323) ≡ record { refusal = 0; number = 318 }
  pub answer-exact : answer_of (write_of all_held 318) ≡ record { refusal = 0; number = 318 }
  pub answer-short : answer_of (write_of all_held 317) ≡ record { refusal = 7; number = 318 }
  pub answer_not_lawful : answer_of (write_of not_lawful 323) ≡ record { refusal = 6; number = 0 }
  pub buffer-written : buffer_after (write_of all_held 323) (replicate 323 7) ≡ all_bytes ++ (7 ∷ 7 ∷ 7 ∷ 7 ∷ 7 ∷ [])
  pub buffer-exact : buffer_after (write_of all_held 318) (replicate 318 7) ≡ all_bytes
  pub buffer-short : buffer_after (write_of all_held 317) (replicate 317 7) ≡ replicate 317 7
  pub buffer_not_lawful : buffer_after (write_of not_lawful 323) (replicate 323 7) ≡ replicate 323 7
  -- no line, every form, and the table of H1
  pub empty : reading [] ≡ read_as (programme_of no_contracts)
  pub every-form : read_of all_bytes ≡ read_as (programme_of all_contracts)
  pub H1 : reading sidney ≡ read_as (programme_of sidney_contracts)
  -- 1 and its 0; a text of 8,192 bytes is read
  pub long : read_of (replicate 8193 10) ≡ refused_at 1 0
  pub not_long : read_of (replicate 8192 10) ≡ refused_at 2 1
  -- 2: seventeen digits, a leading zero, no line feed, a second line that is none
  pub seventeen : reading ("(quota 10000000000000000 (cede 0) (capacity 0) (event 0))" ∷ []) ≡ refused_at 2 1
  pub leading-zero : reading ("(quota 9 (cede 01) (capacity 0) (event 0))" ∷ []) ≡ refused_at 2 1
  pub no-feed : read_of (bytes "(quota 1 (cede 0) (capacity 0) (event 0))") ≡ refused_at 2 1
  pub empty-line : reading ("(quota 1 (cede 0) (capacity 0) (event 0))" ∷ "" ∷ []) ≡ refused_at 2 2
  -- 3: the ends of T
  pub number_0 : reading ("(quota 0 (cede 0) (capacity 0) (event 0))" ∷ []) ≡ refused_at 3 1
  pub number_9 : reading ("(surplus 9 (retain 0) (lines 0) (event 0))" ∷ []) ≡ refused_at 3 1
  pub sixteen-digits : reading ("(quota 1 (cede 9999999999999999) (capacity 0) (event 0))" ∷ []) ≡ refused_at 3 1
  -- a layer's K, its premium and as many rates: none, one, two, and at most twenty
  pub rates-none : read_of (back_text "0 9") ≡ read_as (one_cat 0 9 (replicate 20 0) 0)
  pub rates-one : read_of (back_text "1 5000 10000") ≡ read_as (one_cat 1 5000 (10000 ∷ replicate 19 0) 0)
  pub rates-two : read_of (back_text "2 7 20000 0") ≡ read_as (one_cat 2 7 (20000 ∷ 0 ∷ replicate 18 0) 0)
  pub rates-ten : read_of (back_text "10 7 1 2 3 4 5 6 7 8 9 10")
      ≡ read_as (one_cat 10 7 (1 ∷ 2 ∷ 3 ∷ 4 ∷ 5 ∷ 6 ∷ 7 ∷ 8 ∷ 9 ∷ 10 ∷ replicate 10 0) 0)
  -- 2: a rate less or more than K, also where K itself is out of range; a blank without a number
  pub rate_missing : read_of (back_text "2 7 20000") ≡ refused_at 2 1
  pub rate_more : read_of (back_text "2 7 20000 0 0") ≡ refused_at 2 1
  pub rate_of_none : read_of (back_text "0 0 0") ≡ refused_at 2 1
  pub rate_blank : read_of (back_text "0 0 ") ≡ refused_at 2 1
  pub rates_of_21 : read_of (back_text "21 0 1 2 3 4 5 6 7 8 9 10 11 12 13 14 15 16 17 18 19 20") ≡ refused_at 2 1
  pub rates_of_many : read_of (back_text "9999999999999999 0 1 2 3") ≡ refused_at 2 1
  pub rate_of_17_digits : read_of (back_text "1 0 10000000000000000") ≡ refused_at 2 1
  -- 3: twenty-one rates, and a rate above 20,000: one of sixteen digits too, and a premium in the place of a rate
  pub rates_21 : read_of (back_text "21 0 1 2 3 4 5 6 7 8 9 10 11 12 13 14 15 16 17 18 19 20 21") ≡ refused_at 3 1
  pub rate_high : read_of (back_text "2 0 20000 20001") ≡ refused_at 3 1
  pub rate_of_16_digits : read_of (back_text "1 0 9999999999999999") ≡ refused_at 3 1
  pub rate_and_premium : read_of (back_text "1 5000 75000000") ≡ refused_at 3 1
  -- (time) after placed, in a line of either tier, with rates and without
  pub time-none : read_of (ended_by ")") ≡ read_as (one_cat 1 5000 (10000 ∷ replicate 19 0) 0)
  pub time-cat : read_of (ended_by " (time))") ≡ read_as (one_cat 1 5000 (10000 ∷ replicate 19 0) 1)
  pub time-risk : read_of (bytes "(risk (band 7 3) (deduct 0) (back 0 9) (placed 3333) (time))\n") ≡ read_as timed_risk
  -- 2: another word or a number in it, twice, without its blank, with one too many, or without the last bracket
  pub time-other : map (λ (tail : String). read_of (ended_by tail))
      (" (time ))" ∷ " ( time))" ∷ " (time 1))" ∷ " (times))" ∷ " (Time))" ∷ " (tim))" ∷ " ())" ∷ [])
      ≡ replicate 7 (refused_at 2 1)
  pub time-twice : read_of (ended_by " (time) (time))") ≡ refused_at 2 1
  pub time_blanks : map (λ (tail : String). read_of (ended_by tail))
      ("(time))" ∷ "  (time))" ∷ " (time) )" ∷ " (time)) " ∷ " )" ∷ []) ≡ replicate 5 (refused_at 2 1)
  pub time_bracket : map (λ (tail : String). read_of (ended_by tail))
      (" (time)" ∷ " (time)))" ∷ " time)" ∷ "" ∷ "))" ∷ []) ≡ replicate 5 (refused_at 2 1)
  -- before placed, and in a treaty's line
  pub time-early : map (λ (line : String). reading (line ∷ []))
      ("(cat (band 40 60) (deduct 11) (back 1 5000 10000) (time) (placed 7200))"
      ∷ "(risk (band 40 60) (deduct 11) (time) (back 0 0) (placed 7200))" ∷ [])
      ≡ replicate 2 (refused_at 2 1)
  pub time-treaty : map (λ (line : String). reading (line ∷ []))
      ("(quota 3 (cede 0) (capacity 0) (event 0) (time))"
      ∷ "(surplus 3 (retain 0) (lines 0) (event 0) (time))" ∷ [])
      ≡ replicate 2 (refused_at 2 1)
  -- 4: a treaty after a layer, a risk layer after a cat layer, T not above the one before
  pub treaty_late :
      reading ("(cat (band 0 1) (deduct 0) (back 0 0) (placed 0))"
      ∷ "(quota 1 (cede 0) (capacity 0) (event 0))" ∷ [])
      ≡ refused_at 4 2
  pub risk_late :
      reading ("(cat (band 0 1) (deduct 0) (back 0 0) (placed 0))"
      ∷ "(risk (band 9 1) (deduct 0) (back 0 0) (placed 0))" ∷ [])
      ≡ refused_at 4 2
  pub same_number :
      reading ("(quota 3 (cede 0) (capacity 0) (event 0))"
      ∷ "(surplus 3 (retain 0) (lines 0) (event 0))" ∷ [])
      ≡ refused_at 4 2
  pub treaty-after-risk :
      reading ("(risk (band 0 1) (deduct 0) (back 0 0) (placed 0))"
      ∷ "(quota 1 (cede 0) (capacity 0) (event 0))" ∷ [])
      ≡ refused_at 4 2
  pub surplus-after-risk :
      reading ("(risk (band 0 1) (deduct 0) (back 0 0) (placed 0))"
      ∷ "(surplus 1 (retain 0) (lines 0) (event 0))" ∷ [])
      ≡ refused_at 4 2
  pub falling-number :
      reading ("(quota 5 (cede 0) (capacity 0) (event 0))"
      ∷ "(surplus 3 (retain 0) (lines 0) (event 0))" ∷ [])
      ≡ refused_at 4 2
  -- eight layers of a tier, and a ninth, at the end of the band before or below it
  pub eight-layers : reading eight_risks ≡ read_as (with_risk 8 eight_terms)
  pub ninth_layer :
      reading (eight_risks ++ ("(risk (band 100 1) (deduct 0) (back 0 0) (placed 0))" ∷ [])) ≡ refused_at 4 9
  pub ninth_and_overlapping :
      reading (eight_risks ++ ("(risk (band 99 1) (deduct 0) (back 0 0) (placed 0))" ∷ [])) ≡ refused_at 4 9
  pub ninth_far_below :
      reading (eight_risks ++ ("(risk (band 0 1) (deduct 0) (back 0 0) (placed 0))" ∷ [])) ≡ refused_at 4 9
  pub ninth_cat :
      reading (eight_cats ++ ("(cat (band 200 1) (deduct 0) (back 0 0) (placed 0))" ∷ [])) ≡ refused_at 4 9
  pub ninth_cat_and_overlapping :
      reading (eight_cats ++ ("(cat (band 199 1) (deduct 0) (back 0 0) (placed 0))" ∷ [])) ≡ refused_at 4 9
  pub late_and_overlapping :
      reading ("(risk (band 50 50) (deduct 0) (back 0 0) (placed 0))"
      ∷ "(cat (band 0 1) (deduct 0) (back 0 0) (placed 0))"
      ∷ "(risk (band 99 1) (deduct 0) (back 0 0) (placed 0))" ∷ [])
      ≡ refused_at 4 3
  -- 5: bands 50 50 then 100 1 accepted, 50 50 then 99 1 refused
  pub touching :
      reading ("(risk (band 50 50) (deduct 0) (back 0 0) (placed 0))"
      ∷ "(risk (band 100 1) (deduct 0) (back 0 0) (placed 0))" ∷ [])
      ≡ read_as (programme_of (record {
        treaties = [];
        risk = terms_of 50 50 0 0 0 [] 0 0 ∷ terms_of 100 1 0 0 0 [] 0 0 ∷ [];
        cat = [];
      }))
  pub overlapping :
      reading ("(risk (band 50 50) (deduct 0) (back 0 0) (placed 0))"
      ∷ "(risk (band 99 1) (deduct 0) (back 0 0) (placed 0))" ∷ [])
      ≡ refused_at 5 2
  -- a risk layer's band does not bind the first cat layer
  pub other-tier :
      reading ("(risk (band 50 50) (deduct 0) (back 0 0) (placed 0))"
      ∷ "(cat (band 99 1) (deduct 0) (back 0 0) (placed 0))" ∷ [])
      ≡ read_as (programme_of (record {
        treaties = [];
        risk = terms_of 50 50 0 0 0 [] 0 0 ∷ [];
        cat = terms_of 99 1 0 0 0 [] 0 0 ∷ [];
      }))
  -- the lowest number on one line; the first line from the top
  pub range-before-order :
      reading ("(cat (band 0 1) (deduct 0) (back 0 0) (placed 0))"
      ∷ "(quota 9 (cede 0) (capacity 0) (event 0))" ∷ []) ≡ refused_at 3 2
  pub first-line : reading ("(quota 9 (cede 0) (capacity 0) (event 0))" ∷ "none" ∷ []) ≡ refused_at 3 1
  pub band_before_form :
      reading ("(cat (band 50 50) (deduct 0) (back 0 0) (placed 0))"
      ∷ "(cat (band 99 1) (deduct 0) (back 0 0) (placed 0))"
      ∷ "none" ∷ [])
      ≡ refused_at 5 2
  -- writing: the text, its length with 7
  pub writes : write_of (programme_of sidney_contracts) 240 ≡ written (text sidney) text_only
  pub exactly : write_of (programme_of all_contracts) 318 ≡ written all_bytes text_only
  pub one-short : write_of (programme_of all_contracts) 317 ≡ refused 7 318
  pub no_lines : write_of (programme_of no_contracts) 0 ≡ written [] text_only
  pub writes-none : write_of (one_cat 0 9 (replicate 20 0) 0) 100 ≡ written (back_text "0 9") text_only
  pub writes-two : write_of (one_cat 2 7 (20000 ∷ 0 ∷ replicate 18 0) 0) 100 ≡ written (back_text "2 7 20000 0") text_only
  pub writes-time : write_of (one_cat 1 5000 (10000 ∷ replicate 19 0) 1) 72 ≡ written (ended_by " (time))") text_only
  pub time-one-short : write_of (one_cat 1 5000 (10000 ∷ replicate 19 0) 1) 71 ≡ refused 7 72
  pub writes-timed-risk : write_of timed_risk 100
      ≡ written (bytes "(risk (band 7 3) (deduct 0) (back 0 9) (placed 3333) (time))\n") text_only
  -- 6: a range, unused places that are not 0, kinds, a term of the other kind
  pub limit_1 : write_of (with_risk 1 (alone (terms_of 0 1 0 0 0 [] 0 0))) 0 ≡ refused 7 51
  pub limit_0 : write_of (with_risk 1 (alone (terms_of 0 0 0 0 0 [] 0 0))) 0 ≡ refused 6 0
  pub unused-risk : write_of (with_risk 0 (alone (terms_of 0 1 0 0 0 [] 0 0))) 1000 ≡ refused 6 0
  pub unused-cat : write_of (with_cat 0 (alone (terms_of 0 0 0 0 0 [] 1 0))) 1000 ≡ refused 6 0
  pub time_2 : write_of (one_cat 1 5000 (10000 ∷ replicate 19 0) 2) 1000 ≡ refused 6 0
  pub unused-time : write_of (with_risk 0 (alone only_time)) 1000 ≡ refused 6 0
  pub unused-treaty : write_of (with_treaties 0 (one_treaty 1 0)) 1000 ≡ refused 6 0
  pub quota-written : write_of (with_treaties 1 (one_treaty 1 0)) 0 ≡ refused 7 45
  pub kind_0 : write_of (with_treaties 1 (one_treaty 0 0)) 1000 ≡ refused 6 0
  pub kind_3 : write_of (with_treaties 1 (one_treaty 3 0)) 1000 ≡ refused 6 0
  pub quota_with_retention : write_of (with_treaties 1 (one_treaty 1 1)) 1000 ≡ refused 6 0
  pub surplus_with_cede : write_of (with_treaties 1 (one_treaty 2 0)) 1000 ≡ refused 6 0

pub corners : Corners
unfolding printed_by printed digit_of read_on number capital filled matched whole_of line_numbers lines_of outside
    treaty_outside rates_outside terms_outside treaty_not_zero terms_not_zero rates_text layer_numbers tail_time layer_terms
    kind_of form_of_kind form_of treaty_line treaty_fault layer_fault read_from read_of valid_treaties valid_layers valid fitted
    write_of
corners = record {
  lines-read = refl;
  answer-read = refl;
  answer-empty = refl;
  answer-form = refl;
  answer-range = refl;
  answer-order = refl;
  answer_band = refl;
  answer_not_long = refl;
  answer-long = refl;
  answer-written = refl;
  answer-exact = refl;
  answer-short = refl;
  answer_not_lawful = refl;
  buffer-written = refl;
  buffer-exact = refl;
  buffer-short = refl;
  buffer_not_lawful = refl;
  empty = refl;
  every-form = refl;
  H1 = refl;
  long = refl;
  not_long = refl;
  seventeen = refl;
  leading-zero = refl;
  no-feed = refl;
  empty-line = refl;
  number_0 = refl;
  number_9 = refl;
  sixteen-digits = refl;
  rates-none = refl;
  rates-one = refl;
  rates-two = refl;
  rates-ten = refl;
  rate_missing = refl;
  rate_more = refl;
  rate_of_none = refl;
  rate_blank = refl;
  rates_of_21 = refl;
  rates_of_many = refl;
  rate_of_17_digits = refl;
  rates_21 = refl;
  rate_high = refl;
  rate_of_16_digits = refl;
  rate_and_premium = refl;
  time-none = refl;
  time-cat = refl;
  time-risk = refl;
  time-other = refl;
  time-twice = refl;
  time_blanks = refl;
  time_bracket = refl;
  time-early = refl;
  time-treaty = refl;
  treaty_late = refl;
  risk_late = refl;
  same_number = refl;
  treaty-after-risk = refl;
  surplus-after-risk = refl;
  falling-number = refl;
  eight-layers = refl;
  ninth_layer = refl;
  ninth_and_overlapping = refl;
  ninth_far_below = refl;
  ninth_cat = refl;
  ninth_cat_and_overlapping = refl;
  late_and_overlapping = refl;
  touching = refl;
  overlapping = refl;
  other-tier = refl;
  range-before-order = refl;
  first-line = refl;
  band_before_form = refl;
  writes = refl;
  exactly = refl;
  one-short = refl;
  no_lines = refl;
  writes-none = refl;
  writes-two = refl;
  writes-time = refl;
  time-one-short = refl;
  writes-timed-risk = refl;
  limit_1 = refl;
  limit_0 = refl;
  unused-risk = refl;
  unused-cat = refl;
  time_2 = refl;
  unused-time = refl;
  unused-treaty = refl;
  quota-written = refl;
  kind_0 = refl;
  kind_3 = refl;
  quota_with_retention = refl;
  surplus_with_cede = refl;
}
