-- The examples, by computation.
use mathlib.Core.Path.{refl}
use Rattle.integers.specs.Sum.{sum_over}
use Rattle.scheme.specs.Lists.{tabulate, some_below, only}
use Rattle.types.specs.Numbers.{kind_of}
use Rattle.scheme.specs.Instruments.{size_in, stable_in, round_edge, fixed_in, moving, free_in}
use Rattle.scheme.specs.Step.{beside, neighbours, laplacian, inner_laplacian, numerator, round_away, next_at, next_level}
use Rattle.scheme.specs.Step.{some_beyond, sample_of}
use Rattle.scheme.specs.Refusals.{fixed_not_zero, block_refusal}
use Rattle.scheme.specs.Calls.{play, block}
use Rattle.ring_decimals.specs.Decimals.{all, unsigned_to, is_signed, signed_value}
use Rattle.ring_line.specs.Lists.{before, split_on, text}
use Rattle.ring_line.specs.Requests.{well_formed, line_request, request_of}
use Rattle.ring_playing.specs.Play.{played}
use Rattle.ring_listing.specs.Text.{digits_in, decimal, signed_decimal, pair_line, step_lines, done_line}
use Rattle.ring_shell.specs.Answer.{run_text, answer}
use Rattle.ring_shell.specs.Examples.{table, ExamplesHold}

pub examples_hold : ExamplesHold
unfolding sum_over tabulate some_below only kind_of size_in stable_in round_edge fixed_in moving free_in beside neighbours laplacian
    inner_laplacian numerator round_away next_at next_level some_beyond sample_of fixed_not_zero block_refusal play block
    all before split_on unsigned_to is_signed signed_value well_formed line_request request_of
    played text digits_in decimal signed_decimal pair_line step_lines done_line run_text answer table
examples_hold = refl
