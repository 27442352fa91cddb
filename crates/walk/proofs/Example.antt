-- A walk that takes m + 1 rounds, computed: rows a; b on a; c on b, of which B has a. The filter of a alone, at 10 bits and 7 probes, falsely has b and c.
-- So round one brings nothing; round two asks for the head c, which waits; round three asks for b, and both move. So the premises are met, and m rounds
-- aren't enough. Assumes nothing.
use Prim.Native.Nat.{ℕ, suc, ◌+◌, ◌≤◌}
use mathlib.Core.Bool.{Bool, true, false, not, ◌||◌, ◌&&◌}
use mathlib.Core.List.{List, [], ◌∷◌, ◌++◌}
use mathlib.Core.Path.{◌≡◌, refl, sym, ap, ◌∙◌}
use native.Mathlib.Nat.{le_trans}
use native.Mathlib.Omega.{arith}
use borrow.Author.Tests.{eqb-true}
use lib.Dec.{eqb}
use lib.ListN.{length, replicate}
use Rattle.bloom.proofs.Rules.{default_good}
use Rattle.bloom.specs.Filter.{field_size, default_bits, default_probes}
use Rattle.bloom.specs.Have.{Have}
use Rattle.table_graph.proofs.BelowLaws.{beyond_few}
use Rattle.table_graph.specs.Graph.{below_row, below, beyond, needed, heads}
use Rattle.send_members.specs.Internal.Members.{last_syncs, filters, candidate, missed, in_the_s, the_s}
use Rattle.waiting_missing.specs.Missing.{unknown, asked_row, asks_from, missing}
use Rattle.hash_order.proofs.KeepLaws.{once_none, once_cons}
use Rattle.hash_order.proofs.OrderLaws.{member_none}
use Rattle.hash_order.specs.Order.{member, keep, every, often, ascends, insert_once, ascend}
use Rattle.hash_order.specs.Reach.{some_below, reach_in, reach}
use Rattle.bloom_probe.specs.Build.{set_bit, set_bits, add_hash, add_hashes, filter_of}
use Rattle.bloom_probe.specs.Contains.{clear_at, none_clear, contains, any_contains}
use Rattle.bloom_probe.specs.Probes.{probes_from, probes_of, bit_at}
use Rattle.rules.proofs.Cases.{split, either, true_false}
use Rattle.rules.specs.Hash.{big_endian, big_endian_bytes, hash_bytes}
use Rattle.rules.specs.LittleEndian.{u32_at}
use Rattle.rules.specs.Sizes.{sizes}
use Rattle.send.specs.ToSend.{to_send, to_send_less}
use Rattle.session.specs.Plan.{have_of, haves_for}
use Rattle.table.proofs.ExtendLaws.{good_append}
use Rattle.table.specs.Table.{Row, rows, hash_of, deps_of, GoodTable, index_in, row_number, held, deps, rows_from, rows_where}
use Rattle.waiting.specs.Waiting.{Waiting, waiting, asks, asks_of}
use Rattle.walk.specs.Round.{Part, trim, Moves, done, step, Loads}
use Rattle.walk.specs.Walk.{At, starting, Walk01, heard_in, walk_need, offer_to, holds_all, lacking}

-- The hash whose first three words are these bytes, and whose other bytes are 0.
abbrev pub words_hash : ℕ → ℕ → ℕ → ℕ
words_hash x y z = big_endian (x ∷ 0 ∷ 0 ∷ 0 ∷ y ∷ 0 ∷ 0 ∷ 0 ∷ z ∷ 0 ∷ 0 ∷ 0 ∷ replicate 20 0)

abbrev pub a : ℕ
a = words_hash 1 2 3

-- Two hashes with the same first words.
abbrev pub b : ℕ
b = words_hash 1 0 0

abbrev pub c : ℕ
c = words_hash 1 0 0 + 1

abbrev row_a : Row
row_a = record { hash = a; deps = [] }

abbrev row_b : Row
row_b = record { hash = b; deps = 0 ∷ [] }

abbrev row_c : Row
row_c = record { hash = c; deps = 1 ∷ [] }

abbrev pub one : List Row
one = row_a ∷ []

abbrev two : List Row
two = row_a ∷ row_b ∷ []

abbrev pub three : List Row
three = row_a ∷ row_b ∷ row_c ∷ []

abbrev pub c_waits : List Waiting
c_waits = record { hash = c; asks = b ∷ [] } ∷ []

abbrev both_wait : List Waiting
both_wait = record { hash = c; asks = b ∷ [] } ∷ record { hash = b; asks = a ∷ [] } ∷ []

-- ---- the tables are good

pub only : (x i : ℕ) → member i (x ∷ []) ≡ true → i ≡ x
unfolding member
only x i m = either (eqb i x) false m (λ e. eqb-true i x e) (λ e. absurd (true_false false e refl))

nothing_good : GoodTable []
unfolding rows
nothing_good = record { once = once_none; down = λ i k h. absurd (omega arith); ordered = λ i h. absurd (omega arith) }

good_one : GoodTable one
unfolding held rows member ascends
good_one = good_append [] row_a nothing_good refl refl (λ k m. absurd (member_none k m))

good_two : GoodTable two
unfolding held rows member ascends big_endian
good_two = good_append one row_b good_one refl refl (λ k m. omega (arith, only 0 k m))

pub good_three : GoodTable three
unfolding held rows member ascends big_endian
good_three = good_append two row_c good_two refl refl (λ k m. omega (arith, only 1 k m))

pub part_one : Part three one
unfolding held rows member deps row_number index_in deps_of hash_of big_endian
part_one =
    record {
      good = good_one;
      within = λ h e. rw (only a h e);
      same = λ h d e. rw (only a h e);
    }

-- ---- what is loaded

-- nothing comes
pub load_none : Loads three one [] [] one []
unfolding waiting member
load_none =
    record {
      joined = [];
      joins = record { are = λ h. refl; once = once_none; ask = λ h d m. absurd (member_none h m) };
      settles = done (λ h m. absurd (member_none h m));
    }

-- c comes and waits
c_asks : (h d : ℕ) → member h (waiting c_waits) ≡ true → member d (asks c_waits h) ≡ member d (deps three h)
unfolding waiting member asks asks_of index_in deps row_number rows deps_of hash_of big_endian
c_asks h d m = rw (only c h m)

c_stuck : (h : ℕ) → member h (waiting c_waits) ≡ true → every (held one) (asks c_waits h) ≡ false
unfolding waiting member asks asks_of index_in every held rows big_endian
c_stuck h m = rw (only c h m)

pub load_c : Loads three one [] (c ∷ []) one c_waits
unfolding waiting member
load_c =
    record {
      joined = c_waits;
      joins = record { are = λ h. refl; once = once_cons c [] refl once_none; ask = c_asks };
      settles = done c_stuck;
    }

-- b comes and moves, then c
either_waits : {C : Type 0} (h : ℕ) → member h (waiting both_wait) ≡ true → (h ≡ c → C) → (h ≡ b → C) → C
unfolding waiting member
either_waits h m f g = either (eqb h c) (member h (b ∷ [])) m (λ e. f (eqb-true h c e)) (λ e. g (only b h e))

both_ask : (h d : ℕ) → member h (waiting both_wait) ≡ true → member d (asks both_wait h) ≡ member d (deps three h)
unfolding waiting member asks asks_of index_in deps row_number rows deps_of hash_of big_endian
both_ask h d m = either_waits h m (λ e. rw e) (λ e. rw e)

b_out : (h : ℕ) → member h (waiting c_waits) ≡ (member h (waiting both_wait) && not (eqb h b))
unfolding waiting member big_endian
b_out h =
    split (eqb h b)
    (λ e. let is : h ≡ b = eqb-true h b e in rw is)
    (λ e. rw e (and_true_is (eqb h c || false)))
  where
    and_true_is : (x : Bool) → x ≡ (x && true)
    and_true_is true = refl
    and_true_is false = refl

b_moves : Moves one both_wait two c_waits
unfolding waiting member asks asks_of index_in every held rows hash_of ascends often big_endian
b_moves =
    record {
      hash = b;
      numbers = 0 ∷ [];
      waits = refl;
      ready = refl;
      ordered = refl;
      below = λ i m. omega (arith, only 0 i m);
      name = λ d. refl;
      grown = refl;
      rest = b_out;
      once = λ h. split (eqb h c) (λ e. rw e (omega arith)) (λ e. rw e (omega arith));
      ask = λ h m. rw (only c h m);
    }

c_moves : Moves two c_waits three []
unfolding waiting member asks asks_of index_in every held rows hash_of ascends often big_endian
c_moves =
    record {
      hash = c;
      numbers = 1 ∷ [];
      waits = refl;
      ready = refl;
      ordered = refl;
      below = λ i m. omega (arith, only 1 i m);
      name = λ d. refl;
      grown = refl;
      rest = λ h. split (eqb h c) (λ e. rw e) (λ e. rw e);
      once = λ h. omega arith;
      ask = λ h m. absurd (member_none h m);
    }

pub load_both : Loads three one c_waits (b ∷ []) three []
unfolding waiting member big_endian
load_both =
    record {
      joined = both_wait;
      joins =
          record {
            are = λ h. split (eqb h c) (λ e. rw e) (λ e. rw e);
            once = once_cons c (b ∷ []) refl (once_cons b [] refl once_none);
            ask = both_ask;
          };
      settles = step b_moves (step c_moves (done (λ h m. absurd (member_none h m))));
    }

-- ---- the rounds

abbrev after1 : At
after1 = record { table = one; waits = []; sent = []; named = [] }

abbrev after2 : At
after2 = record { table = one; waits = c_waits; sent = c ∷ []; named = c ∷ [] }

abbrev after3 : At
after3 = record { table = three; waits = []; sent = c ∷ b ∷ []; named = c ∷ b ∷ [] }

-- 10 bits and 7 probes, and no last-sync hash, in each round.
abbrev pub OfThree : ℕ → At → Type 0
OfThree = Walk01 (λ k. default_bits) (λ k. default_probes) (λ k. []) three one

abbrev given : ℕ → At → List Have
given k s = haves_for default_bits default_probes s.table (walk_need (heard_in k three) s) (heard_in k three) []

-- What is offered in each round, and what stays in T.
pub computed :
    (offer_to three (heard_in 0 three) (starting one) (given 0 (starting one)) ≡ [])
    × (offer_to three (heard_in 1 three) after1 (given 1 after1) ≡ c ∷ [])
    × (offer_to three (heard_in 2 three) after2 (given 2 after2) ≡ b ∷ [])
    × (trim three (heads one) [] ≡ [])
    × (trim three (heads one) (c ∷ []) ≡ c ∷ [])
unfolding
    member keep every ascend insert_once reach reach_in some_below big_endian big_endian_bytes hash_bytes rows held hash_of deps_of index_in row_number rows_from
    rows_where waiting asks_of below_row below beyond needed heads unknown asked_row asks_from missing field_size u32_at probes_from probes_of bit_at clear_at
    none_clear contains any_contains set_bit set_bits add_hash add_hashes filter_of last_syncs filters candidate missed in_the_s the_s to_send to_send_less have_of
    haves_for heard_in trim
computed = (refl, refl, refl, refl, refl)

-- a round of this walk in which such a reply goes
next : (k : ℕ) (s s' : At) (reply kept : List ℕ) → length s.table ≤ sizes.rows → OfThree k s → offer_to three (heard_in k three) s (given k s) ≡ reply
    → trim three (heads s.table) s.sent ≡ kept
    → Loads three s.table s.waits reply s'.table s'.waits
    → s'.sent ≡ kept ++ reply
    → s'.named ≡ s.named ++ reply
    → OfThree (suc k) s'
next k s s' reply kept few walk offer stays loads sends names =
    Walk01.round (given k s) reply walk
    (record {
      holds = λ h m. absurd (member_none h m);
      setting = default_good.each (length (beyond s.table [])) (le_trans (beyond_few s.table []) few);
      have = refl;
      whole = sym offer;
      loads = loads;
      sends = sends ∙ ap (λ (l : List ℕ). l ++ reply) (sym stays);
      names = names;
    })

round_one : OfThree 1 after1
round_one = next 0 (starting one) after1 [] [] (omega arith) Walk01.start computed.0 computed.3 load_none refl refl

round_two : OfThree 2 after2
round_two = next 1 after1 after2 (c ∷ []) [] (omega arith) round_one computed.1 computed.3 load_c refl refl

round_three : OfThree 3 after3
round_three = next 2 after2 after3 (b ∷ []) (c ∷ []) (omega arith) round_two computed.2 computed.4 load_both refl refl

-- B lacks two rows; after two rounds it doesn't hold A, after three it does.
pub takes_one_more :
    (lacking three one ≡ 2)
    × ((s : At) × OfThree 2 s × (holds_all three s.table ≡ false))
    × ((s : At) × OfThree 3 s × (holds_all three s.table ≡ true))
unfolding every keep member held rows big_endian
takes_one_more = (refl, (after2, round_two, refl), (after3, round_three, refl))
