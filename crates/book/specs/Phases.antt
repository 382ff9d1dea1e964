-- Which calls a phase allows, and the number of each refusal with what stands beside it. Assumes nothing.
use Rattle.std.specs.Prelude.{ℕ, Bool, true, false}
use Rattle.book.specs.declared.phase.Phase.{Phase}
use Rattle.book.specs.declared.phase.Phase.TheVariants.{Open, Closed, Sound, Clash}
use Rattle.book.specs.declared.phase.Event.{Event}
use Rattle.book.specs.declared.phase.Event.TheVariants.{Lay, AddTerm, Close, GiveRule, Strike, Check, Form, Cofactors, Table}
use Rattle.book.specs.declared.refusal.Refusal.{Refusal}
use Rattle.book.specs.declared.refusal.Refusal.TheVariants.{VariablesOutOfRange, WrongPhase, ExponentPastVariables, TermPresent, TermNotJoined, TooManyTerms, NoTerms, NotOnBorder, WrongLength, CodeOutOfRange, ZeroLeadingCode, RuleMissing, TooManyPairs, DegreeTooHigh, EntriesTooShort, NoSuchVariable}

abbrev when_open : Event → Bool
when_open Lay = true
when_open AddTerm = true
when_open Close = true
when_open GiveRule = false
when_open Strike = false
when_open Check = false
when_open Form = false
when_open Cofactors = false
when_open Table = false

-- closed and clash books take rules and checks
abbrev when_closed : Event → Bool
when_closed Lay = true
when_closed AddTerm = false
when_closed Close = false
when_closed GiveRule = true
when_closed Strike = true
when_closed Check = true
when_closed Form = false
when_closed Cofactors = false
when_closed Table = false

abbrev when_sound : Event → Bool
when_sound Lay = true
when_sound AddTerm = false
when_sound Close = false
when_sound GiveRule = true
when_sound Strike = true
when_sound Check = true
when_sound Form = true
when_sound Cofactors = true
when_sound Table = true

abbrev pub allowed : Phase → Event → Bool
allowed Open e = when_open e
allowed Closed e = when_closed e
allowed Sound e = when_sound e
allowed Clash e = when_closed e

abbrev pub number_of : Refusal → ℕ
number_of VariablesOutOfRange = 1
number_of WrongPhase = 2
number_of (ExponentPastVariables k) = 3
number_of TermPresent = 4
number_of TermNotJoined = 5
number_of TooManyTerms = 6
number_of NoTerms = 7
number_of NotOnBorder = 8
number_of WrongLength = 9
number_of (CodeOutOfRange k) = 10
number_of ZeroLeadingCode = 11
number_of (RuleMissing k) = 12
number_of TooManyPairs = 13
number_of (DegreeTooHigh k) = 14
number_of EntriesTooShort = 15
number_of NoSuchVariable = 16

-- a place counted from 1 where the refusal has one, otherwise 0
abbrev pub beside : Refusal → ℕ
beside VariablesOutOfRange = 0
beside WrongPhase = 0
beside (ExponentPastVariables k) = k
beside TermPresent = 0
beside TermNotJoined = 0
beside TooManyTerms = 0
beside NoTerms = 0
beside NotOnBorder = 0
beside WrongLength = 0
beside (CodeOutOfRange k) = k
beside ZeroLeadingCode = 0
beside (RuleMissing k) = k
beside TooManyPairs = 0
beside (DegreeTooHigh k) = k
beside EntriesTooShort = 0
beside NoSuchVariable = 0
