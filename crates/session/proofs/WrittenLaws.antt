-- The chunks of a plan's message: there are some exactly where the plan carries something, and no more than a message may have. Assumes nothing.
use Prim.Native.Nat.{ℕ, ◌≤◌}
use mathlib.Core.Bool.{not}
use mathlib.Core.List.{List, [], ◌∷◌}
use mathlib.Core.Path.{◌≡◌, refl}
use native.Mathlib.Omega.{arith}
use lib.ListN.{length, length-map}
use Rattle.message.specs.declared.version.MessageVersion.TheVariants.{V1, V2}
use Rattle.message.specs.declared.version.MessageVersion.{MessageVersion}
use Rattle.rules.proofs.Cases.{split}
use Rattle.rules.specs.Sizes.{sizes}
use Rattle.session.specs.Plan.{Plan, list_of, empty}
use Rattle.session.specs.Receive.{some_chunk}
use Rattle.session.specs.Written.{Host, list_chunks, chunks_for, carries}

-- there are chunks exactly if the body is the document or names a hash, in both versions
list_chunks_lem : (host : Host) (v : MessageVersion) (l : List ℕ) → some_chunk (list_chunks host v l) ≡ not (empty l)
unfolding list_chunks
list_chunks_lem host V1 [] = refl
list_chunks_lem host V1 (h ∷ hs) = refl
list_chunks_lem host V2 [] = refl
list_chunks_lem host V2 (h ∷ hs) = refl

pub chunks_carried : (host : Host) (p : Plan) → some_chunk (chunks_for host p) ≡ carries p.body
unfolding chunks_for
chunks_carried host p = split p.body.document (λ e. rw e) (λ e. rw e (list_chunks_lem host p.version p.body.hashes))

no_list_lem : (host : Host) (v : MessageVersion) → list_chunks host v [] ≡ []
unfolding list_chunks
no_list_lem host V1 = refl
no_list_lem host V2 = refl

-- nothing is carried in no chunk
pub no_chunks : (host : Host) (p : Plan) → p.body ≡ list_of [] → chunks_for host p ≡ []
unfolding chunks_for
no_chunks host p e = rw e (no_list_lem host p.version)

few_listed : (host : Host) (v : MessageVersion) (l : List ℕ) → length l ≤ sizes.hashes_to_send → length (list_chunks host v l) ≤ sizes.chunks
unfolding list_chunks
few_listed host V1 l h = rw (length-map l host.change) (omega (arith, h))
few_listed host V2 [] h = omega arith
few_listed host V2 (x ∷ xs) h = omega arith

-- no more chunks than a message may have
pub chunks_few : (host : Host) (p : Plan) → length p.body.hashes ≤ sizes.hashes_to_send → length (chunks_for host p) ≤ sizes.chunks
unfolding chunks_for
chunks_few host p h =
    split p.body.document (λ e. rw e (omega arith)) (λ e. rw e (few_listed host p.version p.body.hashes h))
