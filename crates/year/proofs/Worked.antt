-- Statements worked by hand: two events of three losses each, under two treaties, two risk layers and two catastrophe
-- layers; two events of one day under two treaties with different event limits, with a layer's ledger of them; an
-- event in which the cession and each of three recoveries is rounded up; and three events under layers whose
-- reinstatements have different rates.
-- Assumes nothing.
use mathlib.Core.Path.{◌≡◌, refl}
use mathlib.Core.List.{List, [], ◌∷◌, map}
use Rattle.arith.specs.Round.{rounded}
use Rattle.treaty.specs.declared.Treaty.{Treaty}
use Rattle.treaty.specs.Treaty.{quota_of, surplus_of, loss_of, ceded_by_quota, ceded_by_surplus, ceded_of}
use Rattle.treaty.specs.Treaty.{cut_to_limit, ceded_of_loss}
use Rattle.treaty.specs.Losses.{ceded_in}
use Rattle.layer.specs.Layer.{terms_of, layer_of, placed_of, recovered_of, rated_of, premium_of, recovery_of, due_for, due_of}
use Rattle.layer.specs.Layer.{timed_part, year_premium}
use Rattle.scale.specs.Scale.{time_shares}
use Rattle.events.specs.Event.{Event}
use Rattle.year.specs.Event.{Year, subject_of}
use Rattle.year.specs.Statement.{Statement, statement_of}
use Rattle.year.specs.Ledger.{Entry, first_entry, recovery_added, booked}

-- a quota share with an event limit, and a surplus
abbrev treaties : List Treaty
treaties = quota_of 4 3333 0 1232 ∷ surplus_of 6 900 3 0 ∷ []

-- premiums of 3 / 7 and 8 / 9, of 87 / 110 and 99 / 80 of the slices
abbrev year : Year
year = record {
  risk =
      layer_of (terms_of 500 700 200 2 750 (4000 ∷ 4000 ∷ []) 3333 0) 0 0
      ∷ layer_of (terms_of 1200 900 150 2 1000 (8000 ∷ 8000 ∷ []) 7201 0) 0 0 ∷ [];
  cat =
      layer_of (terms_of 1300 1100 250 1 1450 (6000 ∷ []) 9750 0) 0 0
      ∷ layer_of (terms_of 2500 800 0 1 1100 (9000 ∷ []) 7201 0) 0 0 ∷ [];
}

-- Of the first event's losses the treaties leave 1,735, 1,660 and 823, for the last one's 396 are cut to what 868
-- leave of the event limit, and the risk layers 1,291, 1,096 and 715; of the second's 2,382, 2,346 and 200, and 1,541,
-- 1,698 and 200. The catastrophe layers' subjects are 3,102 and 3,439.
abbrev events : List Event
events =
    record { day = 17; losses = loss_of 4 9000 2603 ∷ loss_of 0 2000 1660 ∷ loss_of 4 1500 1187 ∷ [] }
    ∷ record { day = 203; losses = loss_of 0 5000 2382 ∷ loss_of 4 6000 3519 ∷ loss_of 6 2750 611 ∷ [] } ∷ []

-- The premiums after each event: 200 and 540, 656 and 537; 200 and 1,152, 849 and 713.
abbrev shown : Statement
shown = record {
  events =
      record {
        day = 17;
        amounts = record { gross = 5450; ceded = 1232; risk = 1116; cat = 1263; net = 1839; premium = 1933 };
      }
      ∷ record {
        day = 203;
        amounts = record { gross = 6512; ceded = 1584; risk = 1489; cat = 1648; net = 1791; premium = 981 };
      } ∷ [];
  treaties = record { number = 4; ceded = 2405 } ∷ record { number = 6; ceded = 411 } ∷ [];
  layers = record {
    risk =
        record { deductible = 0; cover = 0; recovered = 700; premium = 200 }
        ∷ record { deductible = 0; cover = 55; recovered = 1905; premium = 1152 } ∷ [];
    cat =
        record { deductible = 0; cover = 250; recovered = 1901; premium = 849 }
        ∷ record { deductible = 0; cover = 198; recovered = 1010; premium = 713 } ∷ [];
  };
  total = record { gross = 11962; ceded = 2816; risk = 2605; cat = 2911; net = 3630; premium = 2914 };
}

pub worked : statement_of time_shares treaties year events ≡ shown
unfolding
    rounded ceded_by_quota ceded_by_surplus ceded_of cut_to_limit ceded_of_loss ceded_in placed_of recovered_of rated_of premium_of
    recovery_of due_for due_of timed_part year_premium subject_of
worked = refl

-- a quota share that takes at most 900 of an event, and a surplus that takes at most 1,300
abbrev limited_treaties : List Treaty
limited_treaties = quota_of 2 2500 0 900 ∷ surplus_of 5 1000 2 1300 ∷ []

-- Without limits 900, 750, 700 and 250 would be ceded in the first event, and in the second 899, 2 and 1,000. The
-- limits cut 700 to 400, 250 to 150 and 2 to 1; each is whole again with the second event, though the day is the same.
abbrev limited_events : List Event
limited_events =
    record { day = 40; losses = loss_of 5 2000 1800 ∷ loss_of 2 1 3000 ∷ loss_of 5 4000 1400 ∷ loss_of 2 1 1001 ∷ [] }
    ∷ record { day = 40; losses = loss_of 2 1 3597 ∷ loss_of 2 1 8 ∷ loss_of 5 3000 1500 ∷ [] } ∷ []

abbrev limited_shown : Statement
limited_shown = record {
  events =
      record {
        day = 40;
        amounts = record { gross = 7201; ceded = 2200; risk = 0; cat = 0; net = 5001; premium = 0 };
      }
      ∷ record {
        day = 40;
        amounts = record { gross = 5105; ceded = 1900; risk = 0; cat = 0; net = 3205; premium = 0 };
      } ∷ [];
  treaties = record { number = 2; ceded = 1800 } ∷ record { number = 5; ceded = 2300 } ∷ [];
  layers = record { risk = []; cat = [] };
  total = record { gross = 12306; ceded = 4100; risk = 0; cat = 0; net = 8206; premium = 0 };
}

pub limits_worked : statement_of time_shares limited_treaties (record { risk = []; cat = [] }) limited_events
    ≡ limited_shown
unfolding rounded ceded_by_quota ceded_by_surplus ceded_of cut_to_limit ceded_of_loss ceded_in subject_of
limits_worked = refl

-- The ledger's y of each loss: 900, 2,250, 1,000 and 851, then 2,698, 7 and 500. Above an attachment of 800, up to 600
-- of each, they bring a layer 100 + 600 + 200 + 51 + 600; without the limits it would be less.
pub limits_booked : map (λ (e : Entry). e.losses)
    (booked time_shares limited_treaties
    (record { risk = first_entry (terms_of 800 600 0 1 0 (0 ∷ []) 10000 0) ∷ []; cat = [] }) limited_events).risk
    ≡ 1551 ∷ []
unfolding rounded ceded_by_quota ceded_by_surplus ceded_of cut_to_limit ceded_of_loss ceded_in placed_of recovered_of recovery_added
limits_booked = refl

-- Three catastrophe layers, placed at 5,000, 3,333 and 7,201.
abbrev three_layers : Year
three_layers = record {
  risk = [];
  cat =
      layer_of (terms_of 100 31 0 1 10 (5000 ∷ []) 5000 0) 0 0 ∷ layer_of (terms_of 150 33 0 1 50 (10000 ∷ []) 3333 0) 0 0
      ∷ layer_of (terms_of 200 37 0 2 37 (7500 ∷ 7500 ∷ []) 7201 0) 0 0 ∷ [];
}

-- Of 101 the quota share takes 50.5, which is 51, so the layers' subject is 250. It brings them 31, 33 and 37, of
-- which they recover 15.5, 10.9989 and 26.6437: 16, 11 and 27, and 54 for the event. Net is 250 less 54. Premiums are
-- 80 / 31, 550 / 33 and 27 × 3 / 4: 2.58, 16.67 and 20.25.
pub rounded-up : statement_of time_shares (quota_of 7 5000 0 0 ∷ []) three_layers
    (record { day = 77; losses = loss_of 7 1 101 ∷ loss_of 0 1 200 ∷ [] } ∷ [])
    ≡ record {
      events =
          record {
            day = 77;
            amounts = record { gross = 301; ceded = 51; risk = 0; cat = 54; net = 196; premium = 40 };
          } ∷ [];
      treaties = record { number = 7; ceded = 51 } ∷ [];
      layers = record {
        risk = [];
        cat =
            record { deductible = 0; cover = 31; recovered = 16; premium = 3 }
            ∷ record { deductible = 0; cover = 33; recovered = 11; premium = 17 }
            ∷ record { deductible = 0; cover = 74; recovered = 27; premium = 20 } ∷ [];
      };
      total = record { gross = 301; ceded = 51; risk = 0; cat = 54; net = 196; premium = 40 };
    }
unfolding
    rounded ceded_by_quota ceded_by_surplus ceded_of cut_to_limit ceded_of_loss ceded_in placed_of recovered_of rated_of premium_of
    recovery_of due_for due_of timed_part year_premium subject_of
rounded-up = refl

-- A risk layer with three rates, and a catastrophe layer whose first reinstatement is free.
abbrev rated_year : Year
rated_year = record {
  risk = layer_of (terms_of 300 400 100 3 999 (1 ∷ 20000 ∷ 7 ∷ []) 3333 0) 0 0 ∷ [];
  cat = layer_of (terms_of 700 500 0 2 640 (0 ∷ 10000 ∷ []) 7201 0) 0 0 ∷ [];
}

-- The quota share takes 300 and 278. The risk layer's used amount is 650, 1,451 and 1,600 after the events, the
-- catastrophe layer's 500, 1,000 and 1,500. The subjects of the latter are 1,333, 1,644 and 1,451.
abbrev rated_events : List Event
rated_events =
    record { day = 12; losses = loss_of 2 1 1200 ∷ loss_of 0 1 650 ∷ [] }
    ∷ record { day = 250; losses = loss_of 0 1 777 ∷ loss_of 2 1 1111 ∷ loss_of 0 1 301 ∷ [] }
    ∷ record { day = 250; losses = loss_of 0 1 1500 ∷ [] } ∷ []

-- The risk layer's slices are 133 and 84, then 133, 134 and 133: 1,680,133 and 2,681,064 at their rates, and 999 of
-- 4,000,000 of it 419.61 and 669.60. The catastrophe layer's are 360, then 360 and 360: nothing, then 460.8. The third
-- event finds no reinstatement left.
pub rates-worked : statement_of time_shares (quota_of 2 2500 0 0 ∷ []) rated_year rated_events
    ≡ record {
      events =
          record {
            day = 12;
            amounts = record { gross = 1850; ceded = 300; risk = 217; cat = 360; net = 973; premium = 420 };
          }
          ∷ record {
            day = 250;
            amounts = record { gross = 2189; ceded = 278; risk = 267; cat = 360; net = 1284; premium = 711 };
          }
          ∷ record {
            day = 250;
            amounts = record { gross = 1500; ceded = 0; risk = 49; cat = 360; net = 1091; premium = 0 };
          } ∷ [];
      treaties = record { number = 2; ceded = 578 } ∷ [];
      layers = record {
        risk = record { deductible = 0; cover = 0; recovered = 533; premium = 670 } ∷ [];
        cat = record { deductible = 0; cover = 0; recovered = 1080; premium = 461 } ∷ [];
      };
      total = record { gross = 5539; ceded = 578; risk = 533; cat = 1080; net = 3348; premium = 1131 };
    }
unfolding
    rounded ceded_by_quota ceded_by_surplus ceded_of cut_to_limit ceded_of_loss ceded_in placed_of recovered_of rated_of premium_of
    recovery_of due_for due_of timed_part year_premium subject_of
rates-worked = refl
