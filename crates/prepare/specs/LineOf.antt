-- The line that a sheet's numbers describe. Document 01, "The line and its numbers", and "The bit sheet". There is no
-- other way from a sheet to a line.
--   line_of N   the line of the numbers N
-- Assumes nothing.
use Rattle.line.specs.Line.{Line, line_from}
use Rattle.sheet.specs.Numbers.{Numbers}
use Rattle.sheet.specs.Pairs.{passengers_of_pair}

unfoldable pub line_of : Numbers → Line
line_of N =
    line_from N.trains N.period N.times.departure N.times.driving N.times.delay (passengers_of_pair N)
