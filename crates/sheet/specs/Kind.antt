-- Which kind a number names. Assumes nothing.
use Rattle.std.specs.Prelude.{ℕ, Some, None, Ok, Err, Option, Result}
use Rattle.sheet.specs.declared.kind.Kind.{Kind}
use Rattle.sheet.specs.declared.kind.UnknownKind.{UnknownKind}
use Rattle.sheet.specs.Body.{kind_of}

-- the kind, or the number that is no kind's
abbrev pub kind_or : ℕ → Option Kind → Result Kind UnknownKind
kind_or k (Some kind) = Ok kind
kind_or k None = Err (record { 0 = k })

abbrev pub named : ℕ → Result Kind UnknownKind
named k = kind_or k (kind_of k)
