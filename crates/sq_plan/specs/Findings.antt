-- What is found in a file that is refused.
use Rattle.std.specs.Prelude.{ℕ, List, []}
use Rattle.sq_base.specs.Refusals.{refused, refused_naming}
use Rattle.sq_base.specs.declared.code.Code.{Code}
use Rattle.sq_base.specs.declared.place.Place.{Place}
use Rattle.sq_base.specs.declared.refusal.Refusal.{Refusal}
use Rattle.sq_plan.specs.declared.halt.Finding.{Finding}
use Rattle.sq_plan.specs.declared.halt.Spot.TheVariants.{Whole, Placed}

-- the place where a file begins
abbrev pub start : Place
start = record { file = 0; line = 1; column = 1 }

-- a refusal at its place in a source
abbrev pub in_source : List ℕ → Refusal → Finding
in_source path refusal = record { path = path; spot = Placed; refusal = refusal }

-- a refusal of a whole file, with the text that it keeps
abbrev pub of_whole : List ℕ → Code → List ℕ → Finding
of_whole path code text = record { path = path; spot = Whole; refusal = refused_naming code start text }
