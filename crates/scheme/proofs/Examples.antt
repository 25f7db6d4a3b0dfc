-- The tables of examples hold: each row by computing. A row that no longer holds is refused at its own line.
use mathlib.Core.Path.{refl}
use lib.Ieee.{of_bits, div, of_int}
use Rattle.integers.specs.Sum.{sum, sum_over}
use Rattle.pluck_table.specs.Table.{table}
use Rattle.pluck_table.specs.Loading.{keeps_rule, loaded_table}
use Rattle.scheme.specs.Lists.{tabulate, some_below, count_below, only}
use Rattle.types.specs.Numbers.{kind_of}
use Rattle.scheme.specs.Instruments.{size_in, stable_in, round_edge, fixed_in, moving, free_in}
use Rattle.scheme.specs.Step.{beside, neighbours, laplacian, inner_laplacian, numerator, round_away, next_at, next_level, inexact_at}
use Rattle.scheme.specs.Step.{inexact_in, some_beyond, sample_of, float_of}
use Rattle.scheme.specs.Pluck.{pluck_at, pluck_level}
use Rattle.scheme.specs.Refusals.{fixed_not_zero, block_refusal, pluck_refusal, pluck_with_refusal, reading_refusal, instrument_refusal}
use Rattle.scheme.specs.Calls.{play, capped, block, block_in_place, pluck_by, pluck, pluck_with, reading}
use Rattle.scheme.specs.Energy.{weight, squares, later, pair_sum, laplacian_sum, energy}
use Rattle.scheme.specs.Book.{unrounded_at, unrounded_step, unrounded_steps, goes_on, book_block, book_pluck, sum_block, sum_pluck}
use Rattle.scheme.specs.Book.{leaves, book_call, sum_call, calls}
use Rattle.scheme.specs.Examples.{ExamplesHold}
use Rattle.scheme.specs.FurtherExamples.{FurtherHold}
use Rattle.scheme.specs.PlateExamples.{PlatesHold}
use Rattle.scheme.specs.LentExamples.{LentHold}
use Rattle.scheme.specs.MirrorExamples.{MirrorsHold, RunsHold, LowestBeyond}

-- first, so that a definition by which up and down differ is refused by `MirrorImage`
pub mirrors_hold : MirrorsHold
unfolding sum_over tabulate some_below count_below only kind_of size_in stable_in fixed_in moving free_in beside neighbours laplacian
    inner_laplacian
    numerator round_away next_at next_level inexact_at inexact_in some_beyond sample_of table pluck_at pluck_level fixed_not_zero
    block_refusal
    pluck_refusal pluck_with_refusal keeps_rule loaded_table play capped block block_in_place pluck_by pluck pluck_with unrounded_at
    unrounded_step
    unrounded_steps goes_on book_block book_pluck sum_block sum_pluck leaves book_call sum_call calls
mirrors_hold = record {
  halves = refl;
  read_out = refl;
  struck = refl;
  bent = refl;
  ended = refl;
  plucked = refl;
  plucked_with = refl;
  too_high = refl;
  not_zero = refl;
  too_strong = refl;
}

pub examples_hold : ExamplesHold
unfolding tabulate only kind_of count_below sum_over size_in stable_in round_edge fixed_in moving free_in beside neighbours laplacian
    inner_laplacian numerator round_away next_at next_level instrument_refusal
examples_hold = record {
  A = refl;
  B = refl;
  C = refl;
  D = refl;
  E = refl;
  F = refl;
  G = refl;
  H = (λ c r e. simp e, λ c r e. simp e);
  I = (λ c r e. simp e, λ c r e. simp e);
  J = (refl, refl);
}

pub further_hold : FurtherHold
unfolding sum sum_over tabulate some_below count_below only kind_of size_in stable_in round_edge fixed_in moving free_in beside neighbours
    laplacian
    inner_laplacian numerator round_away next_at next_level inexact_at inexact_in some_beyond sample_of float_of table pluck_at pluck_level
    fixed_not_zero block_refusal pluck_refusal reading_refusal instrument_refusal play capped block block_in_place pluck_by pluck reading
    weight
    squares later pair_sum laplacian_sum energy unrounded_at unrounded_step unrounded_steps goes_on book_block book_pluck sum_block
    sum_pluck leaves
    book_call sum_call calls of_bits div of_int
further_hold = record {
  free_end_twice = refl;
  half_free = (refl, refl);
  bar_with_loss = refl;
  free_with_hit = refl;
  fixed_ring = refl;
  round_ring = refl;
  membrane_step = refl;
  wholes = (refl, refl);
  remainders = (refl, refl);
  counts_of_examples = refl;
  fixed_not_counted = refl;
  small_remainders = refl;
  by_divisor = refl;
  free_ends_counted = refl;
  count_of_steps = refl;
  count_before_end = (refl, refl);
  count_held = (refl, refl);
  never_inexact = (refl, refl);
  numbers = refl;
  kinds = refl;
  line_sizes = refl;
  membrane_sizes = refl;
  round_sizes = refl;
  coefficients = refl;
  stability = refl;
  stiffness = refl;
  lengths = refl;
  hits = refl;
  forces = refl;
  pick_ups = refl;
  high_points = refl;
  fixed_points = refl;
  pluck_kinds = refl;
  pluck_lengths = refl;
  pluck_centres = refl;
  pluck_heights = refl;
  widths = refl;
  reading_refusals = refl;
  lowest_first = refl;
  samples = refl;
  readings = (refl, refl, refl, refl);
  plucked = refl;
  plucked_down = refl;
  plucked_free = (refl, refl);
  plucked_both = (refl, refl);
  ring_listing = refl;
  silence = (refl, refl);
  ended_block = refl;
  at_once = (refl, refl);
  block_turned_down = refl;
  empty_block = refl;
  in_place_ended = refl;
  in_place_at_once = refl;
  in_place_steps = (refl, refl);
  in_place_lengths = refl;
  in_place_turned_down = refl;
  in_place_empty = refl;
  energies = (refl, refl, refl);
  book_goes_on = refl;
  book_in_place = (refl, refl);
  book_starts_anew = refl;
  plucked_book = refl;
  pluck_then_step = refl;
  outcomes = refl;
  in_place_outcomes = refl;
  distances = (refl, refl);
  half_off = record { all_points = refl; near = record { le = tt } };
}

pub plates_hold : PlatesHold
unfolding sum sum_over tabulate some_below only count_below kind_of size_in stable_in round_edge fixed_in moving free_in beside neighbours
    laplacian
    inner_laplacian numerator round_away next_at next_level inexact_at inexact_in some_beyond sample_of fixed_not_zero block_refusal
    pluck_refusal
    reading_refusal instrument_refusal play capped block weight squares later pair_sum laplacian_sum energy unrounded_at unrounded_step
    unrounded_steps goes_on book_block sum_block leaves book_call sum_call calls
plates_hold = record {
  middle = refl;
  corner = refl;
  smallest = refl;
  narrow = refl;
  flat = refl;
  with_loss = refl;
  with_hit = refl;
  as_membrane = refl;
  counts = refl;
  sizes = refl;
  limits = refl;
  stiff_kinds = refl;
  coefficients = refl;
  ring_points = refl;
  hits = refl;
  fixed_points = refl;
  other_calls = refl;
  block_ended = (refl, refl);
  energies = refl;
  book = refl;
}

pub lent_hold : LentHold
unfolding sum_over tabulate some_below count_below only kind_of size_in stable_in fixed_in moving free_in beside neighbours laplacian
    inner_laplacian
    numerator round_away next_at next_level inexact_at inexact_in some_beyond sample_of table keeps_rule loaded_table pluck_at pluck_level
    fixed_not_zero
    block_refusal pluck_refusal pluck_with_refusal play capped block pluck_by pluck_with unrounded_at unrounded_step unrounded_steps
    goes_on book_block
    book_pluck sum_block sum_pluck leaves book_call sum_call calls
lent_hold = record {
  ordered = refl;
  tables = refl;
  copy_of_t = refl;
  straight_line = refl;
  late_rise = refl;
  early_rise = refl;
  turned_down = refl;
  book = refl;
  book_of_refused = refl;
  outcomes = refl;
}

pub runs_hold : RunsHold
unfolding sum_over tabulate some_below count_below only kind_of size_in stable_in fixed_in moving free_in beside neighbours laplacian
    inner_laplacian
    numerator round_away next_at next_level inexact_at inexact_in some_beyond sample_of table pluck_at pluck_level fixed_not_zero
    block_refusal
    pluck_refusal pluck_with_refusal keeps_rule loaded_table play capped block block_in_place pluck_by pluck pluck_with leaves calls
runs_hold = record {
  halves = refl;
  read_out = refl;
  struck = refl;
  bent = refl;
  ended = refl;
  plucked = refl;
  plucked_with = refl;
  too_high = refl;
  not_zero = refl;
  too_strong = refl;
}

pub lowest-beyond : LowestBeyond
lowest-beyond = refl
