-- The kinds of refusals, and what a refusal keeps.
use Rattle.std.specs.Prelude.{ℕ, List, [], codes}
use Rattle.sq_base.specs.declared.code.Code.{Code}
use Rattle.sq_base.specs.declared.code.Code.TheVariants.{Unterminated, BadByte, NotUtf8, TooLong, TooNested, Syntax, TooDeep, FileTooLong, TooManyFiles, UnknownTable, UnknownColumn, Ambiguous, DuplicateAlias, WholeRow, UnknownType, UnknownSchema, NoCandidate, Several, UnknownFunction, NoCast, NoCommon, NotArray, NotBoolean, NoAssignment, Polymorphic, Ungrouped, AggregateHere, NestedAggregate, OuterAggregate, ColumnCount, BadPosition, TwiceAssigned, TooManyOutputs, Undetermined, Conflict, Mixed, SliceUse, TooManyParams, BadName, BadCommand, DuplicateName, NoColumns, TooManyQueries, TextTooLong, BadJson, BadKey, NoWriter, SameOut, Exists, Missing, InUse, InPrimaryKey, TooManyColumns, Clash, BadOption, NotDeclaration, NotYet}
use Rattle.sq_base.specs.declared.place.Place.{Place}
use Rattle.sq_base.specs.declared.refusal.Refusal.{Refusal}

-- a number and a word
pub record Named : Type 0 where
  pub number : ℕ
  pub word : List ℕ

-- the table of the refusals
abbrev pub named : Code → Named
named Unterminated = record { number = 1; word = codes "Unterminated" }
named BadByte = record { number = 2; word = codes "BadByte" }
named NotUtf8 = record { number = 3; word = codes "NotUtf8" }
named TooLong = record { number = 4; word = codes "TooLong" }
named TooNested = record { number = 5; word = codes "TooNested" }
named Syntax = record { number = 6; word = codes "Syntax" }
named TooDeep = record { number = 7; word = codes "TooDeep" }
named FileTooLong = record { number = 8; word = codes "FileTooLong" }
named TooManyFiles = record { number = 9; word = codes "TooManyFiles" }
named UnknownTable = record { number = 10; word = codes "UnknownTable" }
named UnknownColumn = record { number = 11; word = codes "UnknownColumn" }
named Ambiguous = record { number = 12; word = codes "Ambiguous" }
named DuplicateAlias = record { number = 13; word = codes "DuplicateAlias" }
named WholeRow = record { number = 14; word = codes "WholeRow" }
named UnknownType = record { number = 15; word = codes "UnknownType" }
named UnknownSchema = record { number = 16; word = codes "UnknownSchema" }
named NoCandidate = record { number = 20; word = codes "NoCandidate" }
named Several = record { number = 21; word = codes "Several" }
named UnknownFunction = record { number = 22; word = codes "UnknownFunction" }
named NoCast = record { number = 23; word = codes "NoCast" }
named NoCommon = record { number = 24; word = codes "NoCommon" }
named NotArray = record { number = 25; word = codes "NotArray" }
named NotBoolean = record { number = 26; word = codes "NotBoolean" }
named NoAssignment = record { number = 27; word = codes "NoAssignment" }
named Polymorphic = record { number = 28; word = codes "Polymorphic" }
named Ungrouped = record { number = 30; word = codes "Ungrouped" }
named AggregateHere = record { number = 31; word = codes "AggregateHere" }
named NestedAggregate = record { number = 32; word = codes "NestedAggregate" }
named OuterAggregate = record { number = 33; word = codes "OuterAggregate" }
named ColumnCount = record { number = 40; word = codes "ColumnCount" }
named BadPosition = record { number = 41; word = codes "BadPosition" }
named TwiceAssigned = record { number = 42; word = codes "TwiceAssigned" }
named TooManyOutputs = record { number = 43; word = codes "TooManyOutputs" }
named Undetermined = record { number = 50; word = codes "Undetermined" }
named Conflict = record { number = 51; word = codes "Conflict" }
named Mixed = record { number = 52; word = codes "Mixed" }
named SliceUse = record { number = 53; word = codes "SliceUse" }
named TooManyParams = record { number = 54; word = codes "TooManyParams" }
named BadName = record { number = 60; word = codes "BadName" }
named BadCommand = record { number = 61; word = codes "BadCommand" }
named DuplicateName = record { number = 62; word = codes "DuplicateName" }
named NoColumns = record { number = 63; word = codes "NoColumns" }
named TooManyQueries = record { number = 64; word = codes "TooManyQueries" }
named TextTooLong = record { number = 65; word = codes "TextTooLong" }
named BadJson = record { number = 70; word = codes "BadJson" }
named BadKey = record { number = 71; word = codes "BadKey" }
named NoWriter = record { number = 72; word = codes "NoWriter" }
named SameOut = record { number = 73; word = codes "SameOut" }
named Exists = record { number = 80; word = codes "Exists" }
named Missing = record { number = 81; word = codes "Missing" }
named InUse = record { number = 82; word = codes "InUse" }
named InPrimaryKey = record { number = 83; word = codes "InPrimaryKey" }
named TooManyColumns = record { number = 84; word = codes "TooManyColumns" }
named Clash = record { number = 90; word = codes "Clash" }
named BadOption = record { number = 91; word = codes "BadOption" }
named NotDeclaration = record { number = 95; word = codes "NotDeclaration" }
named NotYet = record { number = 99; word = codes "NotYet" }

abbrev pub number : Code → ℕ
number code = (named code).number

abbrev pub word : Code → List ℕ
word code = (named code).word

-- a refusal at a place, without texts
abbrev pub refused : Code → Place → Refusal
refused code place = record { code = code; place = place; first = []; second = [] }

-- a refusal that keeps a text
abbrev pub refused_naming : Code → Place → List ℕ → Refusal
refused_naming code place text = record { code = code; place = place; first = text; second = [] }
