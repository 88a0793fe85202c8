-- Where a domain may stand among types: what has a domain is given to resolution as its base type (PostgreSQL manual,
-- sections 10.2, 10.3 and 10.5).
use Rattle.std.specs.Prelude.{Bool, true, false, not, ◌||◌, List, IsTrue, is_some}
use Rattle.std.specs.List.{list_all}
use Rattle.sq_base.specs.declared.types.PgType.{PgType}
use Rattle.sq_base.specs.declared.types.Scalar.{Scalar}
use Rattle.sq_base.specs.declared.types.Scalar.TheVariants.{Domain}
use Rattle.sq_overload.specs.CommonType.{one_type}

-- whether a scalar type is a domain
abbrev pub is_domain : Scalar → Bool
is_domain (Domain id) = true
is_domain _ = false

-- whether none of these types is a domain, or an array of one
abbrev pub has_no_domain : List PgType → Bool
has_no_domain types = list_all (λ of. not (is_domain of.scalar)) types

-- none of these types is a domain
abbrev pub NoDomain : List PgType → Type 0
NoDomain types = IsTrue (has_no_domain types)

-- whether none of these types is a domain, unless all of them are one type
abbrev pub has_no_domain_unless_one : List PgType → Bool
has_no_domain_unless_one types = has_no_domain types || is_some (one_type types)

-- none of these types is a domain, unless all of them are one type
abbrev pub NoDomainUnlessOne : List PgType → Type 0
NoDomainUnlessOne types = IsTrue (has_no_domain_unless_one types)
