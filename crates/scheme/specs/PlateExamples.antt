-- A table for plates, kind 7, beside the second one: a step on small plates and its count, both sides of every limit, refusals, a block,
-- energy, book.
-- The numbers come by hand, or from the reference in another language under host/. `FurtherExamples` has a row of every kind's number.
use Rattle.std.specs.Prelude.{◌≡◌, false, List, [], ◌∷◌, map, ℕ, ℤ, pos, None, Ok, Err}
use Rattle.types.specs.declared.Instrument.{Instrument}
use Rattle.types.specs.declared.Refusal.TheVariants.{NextBeyond}
use Rattle.types.specs.Numbers.{number_of, hit_at}
use Rattle.scheme.specs.Lists.{point, count_below}
use Rattle.scheme.specs.Instruments.{moving}
use Rattle.scheme.specs.Step.{next_level, inexact_in}
use Rattle.scheme.specs.Refusals.{instrument_refusal, block_refusal, pluck_refusal, reading_refusal}
use Rattle.scheme.specs.Calls.{block}
use Rattle.scheme.specs.Energy.{energy}
use Rattle.scheme.specs.Book.{step_of, block_call, start, calls}
use Rattle.scheme.specs.Examples.{grid, instrument, level, minus, next, middle9}

-- q 0, m 4096, s 0: a sixteenth of B is taken off
abbrev bent : ℕ → ℕ → Instrument
bent c r = instrument 7 c r 0 4096 0

-- five columns: a row with a fixed point at either end, and a row of the ring
abbrev row5 : ℤ → ℤ → ℤ → List ℤ → List ℤ
row5 x y z rest = pos 0 ∷ x ∷ y ∷ z ∷ pos 0 ∷ rest

abbrev ring5 : List ℤ → List ℤ
ring5 rest = row5 (pos 0) (pos 0) (pos 0) rest

-- 5 × 4 with stiffness and loss
abbrev stiff : Instrument
stiff = instrument 7 5 4 20000 1500 100

abbrev older20 : List ℤ
older20 = ring5 (row5 (pos 1) (minus 2) (pos 3) (row5 (pos 5) (minus 4) (pos 2) (ring5 [])))

abbrev newer20 : List ℤ
newer20 = ring5 (row5 (pos 7) (minus 3) (pos 9) (row5 (minus 11) (pos 6) (minus 5) (ring5 [])))

abbrev rest9 : List ℤ
rest9 = middle9 (pos 0)

-- the numbers of the refusals of plates, each by columns, rows, q and m
abbrev refused_by : ℕ → ℕ → ℕ → ℕ → ℕ
refused_by c r q m = number_of (instrument_refusal (instrument 7 c r q m 0))

pub record PlatesHold : Type 0 where
  -- ---- one step
  -- 20 times the point less 8 times its neighbours, and so on, over 16
  pub middle : next (bent 5 5) (ring5 (ring5 (row5 (pos 0) (pos 16) (pos 0) (ring5 (ring5 []))))) []
      ≡ ring5 (row5 (minus 2) (pos 8) (minus 2) (row5 (pos 8) (pos 12) (pos 8) (row5 (minus 2) (pos 8) (minus 2) (ring5 []))))
  -- "L counted 0 on the outer ring": in a corner the point's own factor is 18, and 32 − 18 is 14
  pub corner : next (bent 5 5) (ring5 (row5 (pos 16) (pos 0) (pos 0) (ring5 (ring5 (ring5 []))))) []
      ≡ ring5 (row5 (pos 14) (pos 8) (minus 1) (row5 (pos 8) (minus 2) (pos 0) (row5 (minus 1) (pos 0) (pos 0) (ring5 []))))
  -- 16 where all four neighbours are fixed
  pub smallest : next (bent 3 3) (middle9 (pos 16)) [] ≡ middle9 (pos 16)
  -- 17 in a corner of 3 × 7 and of 7 × 3, here 3 × 5 and 5 × 3
  pub narrow : next (bent 3 5) (level (0 ∷ 0 ∷ 0 ∷ 0 ∷ 16 ∷ [])) []
      ≡ pos 0 ∷ pos 0 ∷ pos 0 ∷ pos 0 ∷ pos 15 ∷ pos 0 ∷ pos 0 ∷ pos 8 ∷ pos 0 ∷ pos 0 ∷ minus 1 ∷ pos 0 ∷ pos 0 ∷ pos 0 ∷ pos 0 ∷ []
  pub flat : next (bent 5 3) (ring5 (row5 (pos 16) (pos 0) (pos 0) (ring5 []))) []
      ≡ ring5 (row5 (pos 15) (pos 8) (minus 1) (ring5 []))
  pub with_loss : next stiff newer20 older20
      ≡ ring5 (row5 (minus 6) (pos 12) (minus 4) (row5 (minus 2) (minus 4) (pos 4) (ring5 [])))
  pub with_hit : next_level stiff (hit_at 12 (pos 7)) older20 newer20
      ≡ ring5 (row5 (minus 6) (pos 12) (minus 4) (row5 (minus 2) (pos 3) (pos 4) (ring5 [])))
  -- without stiffness a plate is a rectangular membrane
  pub as_membrane : next (instrument 7 5 4 20000 0 100) newer20 older20 ≡ next (instrument 5 5 4 20000 0 100) newer20 older20
  -- inexact points: of `corner`, of a corner of 8, of `with_loss`
  pub counts :
      inexact_in (bent 5 5) None [] (ring5 (row5 (pos 16) (pos 0) (pos 0) (ring5 (ring5 (ring5 []))))) ∷
      inexact_in (bent 5 5) None [] (ring5 (row5 (pos 8) (pos 0) (pos 0) (ring5 (ring5 (ring5 []))))) ∷
      inexact_in stiff None older20 newer20 ∷ []
      ≡ 0 ∷ 2 ∷ 6 ∷ []
  -- ---- 1, 2, 4, 5, 7, 12, plucks and readings
  -- "sizes as kind 5"
  pub sizes :
      refused_by 2 3 0 0 ∷ refused_by 3 2 0 0 ∷ refused_by 3 3 0 0 ∷ refused_by 3 64 0 0 ∷ refused_by 64 3 0 0 ∷ refused_by 64 64 0 0
      ∷ refused_by 65 64 0 0 ∷ refused_by 64 65 0 0 ∷ []
      ≡ 2 ∷ 2 ∷ 0 ∷ 0 ∷ 0 ∷ 0 ∷ 2 ∷ 2 ∷ []
  -- "2q + 16m ≤ 65536"
  pub limits :
      refused_by 5 4 32768 0 ∷ refused_by 5 4 32769 0 ∷ refused_by 5 4 0 4096 ∷ refused_by 5 4 0 4097 ∷ refused_by 5 4 32760 1
      ∷ refused_by 5 4 32761 1 ∷ refused_by 5 4 20000 1596 ∷ refused_by 5 4 20000 1597 ∷ []
      ≡ 0 ∷ 5 ∷ 0 ∷ 5 ∷ 0 ∷ 5 ∷ 0 ∷ 5 ∷ []
  -- m above 0 for kinds 4 and 7 alone
  pub stiff_kinds :
      map (λ k. number_of (instrument_refusal (instrument k 5 5 0 1 0))) (5 ∷ 6 ∷ 7 ∷ [])
      ≡ 5 ∷ 5 ∷ 0 ∷ []
  pub coefficients : refused_by 5 4 65537 0 ∷ refused_by 5 4 0 65537 ∷ refused_by 5 4 65536 0 ∷ refused_by 5 4 0 65536 ∷ []
      ≡ 4 ∷ 4 ∷ 5 ∷ 5 ∷ []
  -- "its outer ring fixed": 6 of the 20 points of 5 × 4 move, 1 of 3 × 3
  pub ring_points : count_below 20 (moving (grid 7 5 4)) ∷ count_below 9 (moving (grid 7 3 3)) ∷ [] ≡ 6 ∷ 1 ∷ []
  pub hits :
      map (λ p. number_of (block_refusal (bent 3 3) rest9 rest9 false 4 (hit_at p (pos 1)))) (0 ∷ 1 ∷ 3 ∷ 4 ∷ 5 ∷ 7 ∷ 8 ∷ 9 ∷ [])
      ≡ 7 ∷ 7 ∷ 7 ∷ 0 ∷ 7 ∷ 7 ∷ 7 ∷ 7 ∷ []
  pub fixed_points :
      number_of (block_refusal (bent 3 3) (level (0 ∷ 1 ∷ 0 ∷ 0 ∷ 0 ∷ 0 ∷ 0 ∷ 0 ∷ 0 ∷ [])) rest9 false 4 None)
      ∷ number_of (block_refusal (bent 3 3) rest9 (level (0 ∷ 0 ∷ 0 ∷ 0 ∷ 0 ∷ 1 ∷ 0 ∷ 0 ∷ 0 ∷ [])) false 4 None)
      ∷ number_of (block_refusal (bent 3 3) rest9 (middle9 (pos 1)) false 4 None) ∷ []
      ≡ 12 ∷ 12 ∷ 0 ∷ []
  -- "1 now admits kind 7 except for plucks": a pluck of a plate, a reading of it and of kind 8
  pub other_calls :
      number_of (pluck_refusal (grid 7 3 3) 9 9 4 1 (pos 1)) ∷ number_of (reading_refusal (grid 7 3 3) rest9 4)
      ∷ number_of (reading_refusal (grid 8 3 3) rest9 4) ∷ []
      ≡ 1 ∷ 0 ∷ 1 ∷ []
  -- ---- a block, energy and book
  -- the next value is u − p + f: four sample units, four again, 0; the hit of the second block passes the ceiling
  pub block_ended :
      (block (bent 3 3) rest9 rest9 rest9 (level (7 ∷ 7 ∷ 7 ∷ [])) 4 (hit_at 4 (pos 1073741824)) ≡ record {
        answer = record { steps = 3; inexact = 0; outcome = Ok tt };
        older = middle9 (pos 1073741824);
        newer = middle9 (pos 0);
        work = rest9;
        samples = level (4 ∷ 4 ∷ 0 ∷ []);
      }) ×
      (block (bent 3 3) rest9 (middle9 (pos 8795824586752)) rest9 (level (7 ∷ 7 ∷ [])) 4 (hit_at 4 (pos 1)) ≡ record {
        answer = record { steps = 0; inexact = 0; outcome = Err NextBeyond };
        older = rest9;
        newer = middle9 (pos 8795824586752);
        work = rest9;
        samples = level (7 ∷ 7 ∷ []);
      })
  -- times 2D
  pub energies : energy stiff (point newer20) (point older20) ≡ pos 46191416
  -- "Plates are owed the same rounding, energy rule and distance as drumheads": after one step the book's newer is the numerator
  pub book : (calls (block_call (bent 3 3) rest9 (level (0 ∷ [])) 4 None ∷ []) (start (middle9 (pos 1)) (middle9 (pos 3)))).state
      ≡ record {
        older = middle9 (pos 3);
        newer = middle9 (pos 2);
        book = record { n = 1; older = middle9 (pos 196608); newer = middle9 (pos 131072); last = step_of (bent 3 3) };
        inexact = 0;
      }
