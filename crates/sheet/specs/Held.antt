-- The numbers that the four lists of the code hold, lent or of their own. Document 01, "The line and its numbers".
--   lent l, times_lent l   those of four lent lists, and of them the times
--   held c                 those of four lists with room for any line
-- Assumes nothing.
use Rattle.sheet.specs.declared.numbers.Lists.{Lists as LentLists}
use Rattle.sheet.specs.declared.numbers.Arrays.{Arrays}
use Rattle.sheet.specs.Numbers.{Times, Lists, lists, times_in}

abbrev pub lent : LentLists → Lists
lent l = lists l.departures.now l.driving.now l.delays.now l.passengers.now

abbrev pub times_lent : LentLists → Times
times_lent l = times_in l.departures.now l.driving.now l.delays.now

abbrev pub held : Arrays → Lists
held c = lists c.departures c.driving c.delays c.passengers
