-- The lines of a report and the bytes of each. Assumes nothing.
use Rattle.std.specs.Prelude.{ℕ, ◌+◌, ◌*◌, Bool, true, false, List, [], ◌∷◌, ◌++◌, length, codes, decimal}
use Rattle.sheet.specs.declared.fault.Layer.{Layer}
use Rattle.sheet.specs.Fault.{layer_name}
use Rattle.lines.specs.declared.fault.Fault.{Fault}
use Rattle.lines.specs.declared.line.Line.{Line}
use Rattle.lines.specs.declared.line.Line.TheVariants as line
use Rattle.lines.specs.Fault.{number_of, byte_of, record_of, layer_of}

-- what a line says: the rules are consistent; they clash at a term for two variables, all counted from 1; the row of a question, whether it is zero, and the number of its cofactors; a fault
pub data Said : Type 0 where
  sound : Said
  clash : ℕ → ℕ → ℕ → Said
  form : List ℕ → Bool → ℕ → Said
  fault : Fault → Said

abbrev pub said : Line → Said
said line.Sound = sound
said (line.Clash t a b) = clash t a b
said (line.Form v m n) = form v.now m n
said (line.Fault f) = fault f

abbrev pub spaced : ℕ → List ℕ
spaced n = 32 ∷ decimal n

abbrev pub all_spaced : List ℕ → List ℕ
all_spaced [] = []
all_spaced (c ∷ v) = spaced c ++ all_spaced v

-- three numbers and the line's end
abbrev pub three : ℕ → ℕ → ℕ → List ℕ
three a b d = spaced a ++ (spaced b ++ (spaced d ++ codes "\n"))

abbrev pub member_word : Bool → List ℕ
member_word true = codes " member"
member_word false = codes " other"

abbrev pub name : Layer → List ℕ
name l = layer_name l

-- the bytes of a line
abbrev pub text : Said → List ℕ
text sound = codes "check sound\n"
text (clash t a b) = codes "check clash" ++ three t a b
text (form v m n) = codes "form" ++ (all_spaced v ++ (member_word m ++ (spaced n ++ codes "\n")))
text (fault f) = codes "fault " ++ (name (layer_of f) ++ three (number_of f) (byte_of f) (record_of f))

-- a line with so many codes takes at most so many bytes
abbrev pub width : Said → ℕ
width sound = 80
width (clash t a b) = 80
width (form v m n) = 80 + 21 * length v
width (fault f) = 80
