-- The kinds of records, and the bytes that stand for them.
use Rattle.std.specs.Prelude.{ℕ, ◌≡◌, Bool, cond, eqb, Option, Some, None, Result, MatchResult}
use Rattle.sample_replay.specs.declared.kind.Kind.{Kind}
use Rattle.sample_replay.specs.declared.kind.Kind.TheVariants.{Number, FilterNumber, PrefixedString, HashList}
use Rattle.sample_replay.specs.declared.kind.UnknownKind.{UnknownKind}

-- The byte that stands for a kind.
abbrev pub code_of : Kind → ℕ
code_of Number = 1
code_of FilterNumber = 2
code_of PrefixedString = 3
code_of HashList = 4

-- The kind that a byte stands for, if any.
abbrev pub kind_of : ℕ → Option Kind
kind_of byte =
    cond (eqb byte (code_of Number))
    (Some Number)
    (cond (eqb byte (code_of FilterNumber))
    (Some FilterNumber)
    (cond (eqb byte (code_of PrefixedString)) (Some PrefixedString) (cond (eqb byte (code_of HashList)) (Some HashList) None)))

-- The result is the kind that the byte stands for; or the byte, where it stands for none.
abbrev pub Decodes : ℕ → Result Kind UnknownKind → Type 0
Decodes byte r = MatchResult r (λ kind. kind_of byte ≡ Some kind) (λ e. (e.0 ≡ byte) × (kind_of byte ≡ None))

-- Whether two kinds are the same.
abbrev pub is_kind : Kind → Kind → Bool
is_kind a b = eqb (code_of a) (code_of b)
