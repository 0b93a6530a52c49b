-- The line that a side gets where the script says nothing of it.
use Rattle.script.specs.declared.entry.Plan.{Plan}
use Rattle.script.specs.declared.entry.Make.TheVariants.{Row}

abbrev pub unsaid_line : Plan
unsaid_line = record { make = Row; cells = 256 }
