-- The denials' numbers.
use Rattle.std.specs.Prelude.{ℕ}
use Rattle.keys.specs.declared.denial.Denial.{Denial}
use Rattle.keys.specs.declared.denial.Denial.TheVariants.{NotEmpty, Unmatched, OutOfRange, Present, Full, Absent, Exhausted, BadGoal, Version, Letter, CutOff, Layout, Misfit, NotSmall, NoRoom, TooLong}

abbrev pub number_of : Denial → ℕ
number_of NotEmpty = 1
number_of Unmatched = 2
number_of OutOfRange = 3
number_of Present = 4
number_of Full = 5
number_of Absent = 6
number_of Exhausted = 7
number_of BadGoal = 8
number_of Version = 9
number_of Letter = 10
number_of CutOff = 11
number_of Layout = 12
number_of Misfit = 13
number_of NotSmall = 14
number_of NoRoom = 15
number_of TooLong = 16
