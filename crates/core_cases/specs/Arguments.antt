-- Parameters and their arguments.
use Rattle.std.specs.Prelude.{false, List, [], ◌∷◌, codes}
use Rattle.sq_builtin.specs.Entries.{int4, text}
use Rattle.sq_core.specs.declared.node.Node.TheVariants.{Apply, Param as ParamNode}
use Rattle.sq_core.specs.declared.routine.Operation.TheVariants.{NullTest}
use Rattle.sq_core.specs.declared.statement.CoreStatement.TheVariants.{Select}
use Rattle.sq_core.specs.Client.{Nil, Shaped}
use Rattle.sq_core.specs.Values.{Null, Truth}
use Rattle.core_cases.specs.World.{Seen, Faulted, Stopped, N, a, int, is, one, query, seen_with, txt, value}
use Rattle.sq_base.specs.declared.types.Scalar.TheVariants.{Unknown}
use Rattle.sq_builtin.specs.Entries.{scalar}
use Rattle.sq_core.specs.declared.node.Node.{Node}
use Rattle.sq_core.specs.Client.{ClientValue}
use Rattle.sq_core.specs.Items.{Item}
use Rattle.sq_shown.specs.declared.signature.Param.{Param}

-- a parameter of whole numbers, number 1
abbrev params : List Param
params = record { number = 1; name = codes "p"; of = int4; nullable = false } ∷ []

abbrev given : ClientValue → Node → List Item → Seen
given argument node items = seen_with params (argument ∷ []) (Select (query [] (node ∷ []))) items

-- each case, with what is expected of it
abbrev pub arguments : List (Seen × Seen)
arguments =
    -- an argument of the parameter's shape is bound to the item
    (given (Shaped int4 5) (ParamNode 1 int4) (is (int 7) ∷ []), one (int 7))
    -- an argument that is null
    ∷ (given Nil (ParamNode 1 int4) [], one Null)
    -- an argument of another shape
    ∷ (given (Shaped text 5) (ParamNode 1 int4) (is (int 7) ∷ []), Stopped)
    -- an argument that is bound to a value of another tag
    ∷ (given (Shaped int4 5) (ParamNode 1 int4) (is (txt 7) ∷ []), Faulted)
    -- a parameter that is not there
    ∷ (given (Shaped int4 5) (ParamNode 2 int4) (is (int 7) ∷ []), Stopped)
    -- a parameter of another type
    ∷ (given (Shaped int4 5) (ParamNode 1 text) (is (int 7) ∷ []), Stopped)
    -- a parameter of unknown type under a null test
    ∷ (given (Shaped int4 5) (Apply (NullTest false) (ParamNode 1 (scalar Unknown) ∷ [])) (is (int 7) ∷ []), one (Truth false))
    -- fewer arguments than parameters
    ∷ (seen_with params [] (Select (query [] (N ∷ []))) (is (int 7) ∷ []), Stopped)
    ∷ []
