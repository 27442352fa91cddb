-- 01's own walk is a walk: the filter over B's rows beyond L contains them, whatever accepted bits and probes it has, since an added hash is contained; and the
-- whole offer is a pick. So what is promised of walks is promised of it. Assumes nothing.
use Prim.Native.Nat.{ℕ, suc, ◌≤◌}
use mathlib.Core.Bool.{true}
use mathlib.Core.List.{List, ◌++◌}
use mathlib.Core.Path.{◌≡◌, refl, sym, subst}
use lib.ListN.{length}
use Rattle.bloom.specs.Have.{Have}
use Rattle.table_graph.specs.Graph.{heads, beyond}
use Rattle.waiting_missing.specs.Missing.{missing}
use Rattle.hash_order.specs.Order.{member, every}
use Rattle.bloom_probe.proofs.FieldLaws.{accepted_contained}
use Rattle.rules.proofs.Cases.{split}
use Rattle.session.specs.Plan.{have_of, haves_for}
use Rattle.table.specs.Table.{Row, GoodTable, held}
use Rattle.waiting.specs.Waiting.{Waiting}
use Rattle.walk.specs.Round.{Part, Covers, Gives, one, none, trim, Picks}
use Rattle.walk.specs.Walk.{At, Walk, accepted, Walk01, Walk01Walks, Round01Rounds, Walk01New, Walk01Goes, heard_in, walk_need, offer_to, holds_all, lacking}
use Rattle.walk.proofs.Loading.{loads_outcome}
use Rattle.walk.proofs.Offers.{picks_whole}
use Rattle.walk.proofs.Theorem1.{theorem_1}

-- A have covers, if its filter is accepted.
pub have_covers : (bits probes : ℕ) (t : List Row) (l : List ℕ) → accepted bits probes t l ≡ true → ((h : ℕ) → member h l ≡ true → held t h ≡ true)
    → Covers t (have_of bits probes t l)
unfolding have_of
have_covers bits probes t l rules holds = record { holds = holds; covers = λ h e. accepted_contained bits probes (beyond t l) h rules e }

pub haves_given : (bits probes : ℕ) (t : List Row) (w : List Waiting) (heard l : List ℕ) → accepted bits probes t l ≡ true → ((h : ℕ) → member h l ≡ true → held t h ≡ true)
    → Gives t w heard (haves_for bits probes t (missing t w heard) heard l)
unfolding haves_for
haves_given bits probes t w heard l rules holds =
    split (every (λ h. member h heard) (missing t w heard))
    (λ e. rw e (one (have_of bits probes t l) e (have_covers bits probes t l rules holds)))
    (λ e. rw e (none e))

pub round01_rounds : Round01Rounds
round01_rounds bits probes A heard l s haves reply s' r =
    record {
      gives = subst (Gives s.table s.waits heard) (sym r.have) (haves_given bits probes s.table s.waits heard l r.setting r.holds);
      picks = subst (Picks (offer_to A heard s haves)) (sym r.whole) (picks_whole (offer_to A heard s haves));
      loads = r.loads;
      sends = r.sends;
      names = r.names;
    }

walks : {bits probes : ℕ → ℕ} {L : ℕ → List ℕ} {A B : List Row} {k : ℕ} {s : At} → Walk01 bits probes L A B k s → Walk A B k s
walks Walk01.start = Walk.start
walks (Walk01.round haves reply walk r) = Walk.round haves reply (walks walk) (round01_rounds _ _ _ _ _ _ _ _ _ r)

pub walk01_walks : Walk01Walks
walk01_walks bits probes L A B good part k s walk = walks walk

-- 01's walk ends: after m + 1 rounds B holds A, and the replies have named m rows.
pub walk01_ends : (bits probes : ℕ → ℕ) (L : ℕ → List ℕ) (A B : List Row) → GoodTable A → Part A B → (k : ℕ) (s : At) → Walk01 bits probes L A B k s
    → suc (lacking A B) ≤ k
    → (holds_all A s.table ≡ true) × (length s.named ≡ lacking A B)
walk01_ends bits probes L A B good part k s walk e =
    let promised = theorem_1 A B good part in
    let all = promised.ends k s (walks walk) e in
    (all, promised.count k s (walks walk) all)

-- No row that B holds is in a reply, by the same promise.
pub walk01_new : Walk01New
walk01_new bits probes L A B good part k s s' haves reply walk r =
    (theorem_1 A B good part).new k s s' haves reply (walks walk) (round01_rounds _ _ _ _ _ _ _ _ _ r)

-- 01's walk can always go on: the have and the reply are there, and what was replied loads in some order.
pub walk01_goes : Walk01Goes
walk01_goes bits probes L A B k s walk rules holds =
    let haves : List Have = haves_for (bits k) (probes k) s.table (walk_need (heard_in k A) s) (heard_in k A) (L k) in
    let reply : List ℕ = offer_to A (heard_in k A) s haves in
    let (b', w', l) = loads_outcome A s.table s.waits reply in (
      record { table = b'; waits = w'; sent = trim A (heads s.table) s.sent ++ reply; named = s.named ++ reply },
      Walk01.round haves reply walk (record { holds = holds; setting = rules; have = refl; whole = refl; loads = l; sends = refl; names = refl }),
    )
