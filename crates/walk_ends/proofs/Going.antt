-- An exchange can always follow: an end can speak, with a have that names no last-sync hash and with its whole list; and what comes can be loaded (walk
-- Loading). Assumes nothing.
use Prim.Native.Nat.{ℕ}
use mathlib.Core.Bool.{true}
use mathlib.Core.List.{List, [], ◌∷◌}
use mathlib.Core.Path.{◌≡◌, refl}
use native.Mathlib.Omega.{arith}
use Rattle.bloom.specs.Have.{Have}
use Rattle.table_graph.specs.Graph.{heads, beyond}
use Rattle.send_members.proofs.SLaws.{last_syncs_one}
use Rattle.send_members.specs.Internal.Members.{last_syncs}
use Rattle.waiting_missing.specs.Missing.{missing}
use Rattle.hash_order.proofs.OrderLaws.{member_none}
use Rattle.hash_order.specs.Order.{member, every}
use Rattle.bloom_probe.proofs.FieldLaws.{added_contained}
use Rattle.rules.proofs.Cases.{split}
use Rattle.session.specs.Plan.{have_of}
use Rattle.table.specs.Table.{Row}
use Rattle.waiting.specs.Waiting.{Waiting}
use Rattle.walk.proofs.Loading.{loads_outcome}
use Rattle.walk.proofs.Offers.{picks_whole}
use Rattle.walk.specs.Round.{Gives, Covers, one, none}
use Rattle.walk_ends.specs.Ends.{StatedWords, End, heads_heard, list_for, end_spoken, Turn, Exchange}

-- ---- a have that may be given and names nothing

record GivenHave (t : List Row) (w : List Waiting) (heard : List ℕ) : Type 0 where
  haves : List Have
  gives : Gives t w heard haves
  nothing : (h : ℕ) → member h (last_syncs haves) ≡ true → ⊥

covers : (t : List Row) → Covers t (have_of 10 7 t [])
unfolding have_of
covers t = record { holds = λ h m. absurd (member_none h m); covers = λ h m. added_contained 10 7 (beyond t []) h (omega arith) m }

no_sync_lem : (t : List Row) (h : ℕ) → member h (last_syncs (have_of 10 7 t [] ∷ [])) ≡ true → ⊥
unfolding have_of last_syncs
no_sync_lem t h m = member_none h (rw (last_syncs_one (have_of 10 7 t [])) at m)

no_sync_none : (h : ℕ) → member h (last_syncs []) ≡ true → ⊥
unfolding last_syncs
no_sync_none h m = member_none h m

given : (t : List Row) (w : List Waiting) (heard : List ℕ) → GivenHave t w heard
given t w heard =
    split (every (λ h. member h heard) (missing t w heard))
    (λ e. record { haves = have_of 10 7 t [] ∷ []; gives = one (have_of 10 7 t []) e (covers t); nothing = no_sync_lem t })
    (λ e. record { haves = []; gives = none e; nothing = no_sync_none })

-- ---- a message

-- One from e to f.
record SaidTurn (J : List Row) (e f : End) : Type 0 where
  says : StatedWords
  list : List ℕ
  spoken : End
  heard : End
  turn : Turn J e f says list spoken heard

said : (J : List Row) (e f : End) → SaidTurn J e f
said J e f =
    let g = given e.table e.waits (heads_heard e.heard) in
    let says : StatedWords = record { heads = heads e.table; need = missing e.table e.waits (heads_heard e.heard); haves = g.haves } in
    let list : List ℕ = list_for e.table e.sent e.heard in
    let (b, w, l) = loads_outcome J f.table f.waits list in
    record {
      says = says;
      list = list;
      spoken = end_spoken e list;
      heard = record { table = b; waits = w; sent = _; heard = _; named = _ };
      turn =
          record {
            speaks = record { heads_are = refl; need_is = refl; gives = g.gives; picks = picks_whole list; after = refl };
            both = λ h m. absurd (g.nothing h m);
            hears = record { loads = l; after = refl };
          };
    }

-- An exchange can follow, wherever the ends stand.
pub goes_on : (J : List Row) (x y : End) → (x' : End) × (y' : End) × Exchange J x y x' y'
goes_on J x y =
    let a = said J x y in
    let b = said J a.heard a.spoken in
    (b.heard, b.spoken, record { says_x = _; list_x = _; spoken_x = _; heard_y = _; first = a.turn; says_y = _; list_y = _; second = b.turn })
