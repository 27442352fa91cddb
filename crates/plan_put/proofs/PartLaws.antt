-- A part that is put: all of it, or nothing where none is counted. Assumes nothing.
use Prim.Native.Nat.{ℕ, ◌+◌, ◌-◌, ◌*◌, ◌≤◌}
use mathlib.Core.Bool.{Bool}
use mathlib.Core.List.{List, [], ◌++◌, append_assoc}
use mathlib.Core.Path.{◌≡◌, sym, ap, ◌∙◌}
use native.Mathlib.Omega.{arith}
use borrow.Author.Tests.{eq-eqb, ne_eqb}
use lib.ListN.{length, take, drop, replicate, length-drop, length-replicate}
use lib.Seq.{sets, sets-eq, drop-drop, length-take-le}
use Rattle.bloom_probe.proofs.FieldLaws.{length_add_hashes}
use Rattle.bloom_probe.specs.Build.{add_hashes}
use Rattle.table_graph.specs.Internal.Marks.{marked}
use Rattle.plan_decide.specs.Internal.Draft.{unless_none}
use Rattle.rules.specs.Hash.{hashes_bytes}
use Rattle.rules.specs.Sizes.{sizes}

module _ (n : ℕ) (l : List ℕ) where
  none_of : n ≡ 0 → unless_none n l ≡ []
  unfolding unless_none
  none_of e = rw (eq-eqb n 0 e)

  all_of : (n ≡ 0 → ⊥) → unless_none n l ≡ l
  unfolding unless_none
  all_of f = rw (ne_eqb n 0 f)

  pub nothing_put : n ≡ 0 → (buffer : List ℕ) → buffer ≡ sets buffer 0 (hashes_bytes (unless_none n l))
  unfolding hashes_bytes
  nothing_put e buffer = rw (none_of e)

  pub all_put_lem : (n ≡ 0 → ⊥) → (buffer next : List ℕ) → next ≡ sets buffer 0 (hashes_bytes l) → next ≡ sets buffer 0 (hashes_bytes (unless_none n l))
  all_put_lem f buffer next e = rw (all_of f) e

  pub no_bytes : n ≡ 0 → (place : ℕ) (buffer : List ℕ) → buffer ≡ sets buffer place (unless_none n l)
  no_bytes e place buffer = rw (none_of e)

-- ---- a field that is filled where it stands

module _ (out : List ℕ) (place size : ℕ) (room : place + size ≤ length out) where
  span : place + size - place ≡ size
  span = omega arith

  pub part_long : length (take (place + size - place) (drop place out)) ≡ size
  part_long = rw span (length-take-le size (drop place out) (omega (arith, length-drop place out)))

  pub field_fits : (n : ℕ) (marks : List Bool) → (marked n marks ≤ 8 * size) × (size ≤ sizes.field)
      → (marked n marks ≤ 8 * length (take (place + size - place) (drop place out))) × (length (take (place + size - place) (drop place out)) ≤ sizes.field)
  field_fits n marks f = (omega (arith, part_long, f.0), omega (arith, part_long, f.1))

  pub field_put : (size ≡ 0 → ⊥) → (probes : ℕ) (hs new : List ℕ)
      → new ≡ add_hashes probes (replicate (length (take (place + size - place) (drop place out))) 0) hs
      → take place out ++ (new ++ drop (place + size - place) (drop place out)) ≡ sets out place (unless_none size (add_hashes probes (replicate size 0) hs))
  field_put some probes hs new e =
      let is : new ≡ add_hashes probes (replicate size 0) hs = rw part_long at e in
      let long : length new ≡ size = ap length is ∙ length_add_hashes probes (replicate size 0) hs ∙ length-replicate size 0 in
      let whole : sets out place new ≡ take place out ++ new ++ drop (place + length new) out = sets-eq new out place (omega (arith, long)) in
      let behind : drop (place + size - place) (drop place out) ≡ drop (place + length new) out =
      rw (span, long) (drop-drop size place out)
      in
      ap (λ (z : List ℕ). take place out ++ (new ++ z)) behind
      ∙ sym (append_assoc (take place out) new (drop (place + length new) out))
      ∙ sym whole
      ∙ ap (sets out place) (is ∙ sym (all_of size (add_hashes probes (replicate size 0) hs) some))
