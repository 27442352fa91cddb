-- The walk's example as bytes: its tables are good, so the hosts can make these calls, and what is granted holds of them. So the corollary of the calls is
-- about something, and so are the contracts' ties: what they ask of a lender is lent here. Assumes nothing.
use Prim.Native.Nat.{ℕ, zero, suc, ◌+◌, ◌-◌, ◌*◌}
use mathlib.Core.Bool.{true}
use mathlib.Core.List.{List, [], ◌∷◌, ◌++◌}
use mathlib.Core.Path.{◌≡◌, refl, sym, subst, fun_ext}
use native.Mathlib.Omega.{arith}
use lib.ListN.{get_or, take, replicate}
use Rattle.table_index.specs.Index.{fits_by, fits, index_fits, index_checked}
use Rattle.rules.proofs.ByteLaws.{bytes_none, bytes_cons, bytes_append, zeros_bytes}
use Rattle.walk_hosts.proofs.Zeroed.{zeroes, zeroes_room, zeroed, zeroed_fresh, zeroed_out, zeroed_wide}
use Rattle.walk_hosts.specs.Memory.{Memory, Tabled, Beside}
use Rattle.hash_order.specs.Order.{member, every, ascends}
use Rattle.rules.proofs.Hash.{big_endian_bytes_bytes}
use Rattle.rules.specs.Hash.{Bytes, big_endian, big_endian_bytes, hash_at, hashes_at, hash_bytes}
use Rattle.rules.specs.LittleEndian.{u16_at}
use Rattle.rules.specs.Sizes.{sizes}
use Rattle.rules.specs.Zeros.{bytes_at, zeros}
use Rattle.table.specs.TableBytes.{u16s_at, count_of, used_of, unused_of, row_of, rows_of, whole_rows_of, numbers_good, row_good_of, first_bad, records_checked, checked_with, table_checked_of, table_of}
use Rattle.table.specs.TableCalls.{passed_on}
use Rattle.table.specs.Table.{Row, rows, hash_of, held}
use Rattle.walk_sessions.proofs.TalkExample.{held_by_b, waiting_at_b, waiting_at_a, lent, set_by_a, set_by_b, good_at_a, good_at_b, BringsAll, all_granted}
use Rattle.walk_sessions.specs.Passing.{Passes, FitIn}
use Rattle.walk_sessions.specs.Talk.{Reached, Granted}
use Rattle.waiting.specs.WaitingBytes.{asks_count_of, waiting_row_of, waiting_rows_of, whole_waiting_of, fill_of, unasked_of, waiting_good_of, waiting_checked_of, waiting_of, waiting_checked}
use Rattle.waiting.specs.Waiting.{Waiting, waiting}
use Rattle.session.specs.PlanCall.{Buffers}
use Rattle.session.specs.Written.{Host}
use Rattle.walk.specs.Round.{Part}
use Rattle.walk.proofs.Example.{a, b, c, one, three, c_waits, part_one}
use Rattle.walk_hosts.specs.Calls.{speaks, have_words_in, WriteMade, Hears, Both, SaidSo, GoodSettings, CallsRound, TalkOfCalls}
use Rattle.walk_hosts.specs.Calls.{AllGranted, CallsEnd, Lends}
use Rattle.walk_hosts.specs.CallContracts.{WriteLent, ReceiveLent}
use Rattle.walk_hosts.proofs.Goes.{calls_go}
use Rattle.walk_hosts.proofs.Talk.{calls_corollary}
use Rattle.std.specs.Prelude.{Ok}

-- ---- tables as bytes

-- Bytes behind the hash of a row, between the count of a waiting row and its hashes, and of its unused hashes where one is used.
abbrev whole : ℕ
whole = 2 * (1 + sizes.dependencies)

abbrev fill : ℕ
fill = sizes.hash - 1

abbrev unused : ℕ
unused = sizes.hash * (sizes.dependencies - 1)

abbrev a_row : List ℕ
a_row = hash_bytes a ++ replicate whole 0

abbrev b_row : List ℕ
b_row = hash_bytes b ++ (1 ∷ replicate (whole - 1) 0)

abbrev c_row : List ℕ
c_row = hash_bytes c ++ (1 ∷ 0 ∷ 1 ∷ replicate (whole - 3) 0)

abbrev all_rows : List ℕ
all_rows = a_row ++ (b_row ++ c_row)

abbrev c_waits_lem : List ℕ
c_waits_lem = hash_bytes c ++ ((1 ∷ replicate fill 0) ++ (hash_bytes b ++ replicate unused 0))

-- By their hashes b comes first and a last.
abbrev all_index : List ℕ
all_index = 1 ∷ 0 ∷ 2 ∷ 0 ∷ 0 ∷ 0 ∷ []

computed :
    (table_of a_row ≡ one)
    × (index_checked a_row (0 ∷ 0 ∷ []) ≡ Ok 1)
    × (table_of all_rows ≡ three)
    × (index_checked all_rows all_index ≡ Ok 3)
    × (waiting_of c_waits_lem ≡ c_waits)
    × (waiting_checked one c_waits_lem ≡ Ok 1)
unfolding
    big_endian big_endian_bytes hash_at hashes_at hash_bytes member every ascends u16_at u16s_at count_of used_of unused_of row_of rows_of whole_rows_of zeros numbers_good
    row_good_of first_bad records_checked checked_with table_checked_of asks_count_of waiting_row_of waiting_rows_of whole_waiting_of bytes_at fill_of unasked_of waiting_good_of
    waiting_checked_of rows held waiting hash_of fits_by fits index_fits index_checked passed_on
computed = (refl, refl, refl, refl, refl, refl)

-- nothing waits in no bytes
none_waits : (t : List Row) → (waiting_of [] ≡ []) × (waiting_checked t [] ≡ Ok 0)
unfolding first_bad records_checked checked_with waiting_rows_of whole_waiting_of waiting_checked_of
none_waits t = (refl, refl)

hash_bytes_lem : (h : ℕ) → Bytes (hash_bytes h)
unfolding hash_bytes
hash_bytes_lem h = big_endian_bytes_bytes sizes.hash h

a_bytes : Bytes a_row
a_bytes = bytes_append (hash_bytes a) (replicate whole 0) (hash_bytes_lem a) (zeros_bytes whole)

counted_one : (n : ℕ) → Bytes (1 ∷ replicate n 0)
counted_one n = bytes_cons 1 (replicate n 0) (omega arith) (zeros_bytes n)

b_bytes : Bytes b_row
b_bytes = bytes_append (hash_bytes b) (1 ∷ replicate (whole - 1) 0) (hash_bytes_lem b) (counted_one (whole - 1))

c_bytes : Bytes c_row
c_bytes =
    let rest : List ℕ = 1 ∷ replicate (whole - 3) 0 in
    bytes_append (hash_bytes c) (1 ∷ 0 ∷ rest) (hash_bytes_lem c)
    (bytes_cons 1 (0 ∷ rest) (omega arith) (bytes_cons 0 rest (omega arith) (counted_one (whole - 3))))

all_bytes : Bytes all_rows
all_bytes = bytes_append a_row (b_row ++ c_row) a_bytes (bytes_append b_row c_row b_bytes c_bytes)

waits_bytes : Bytes c_waits_lem
waits_bytes =
    let rest : List ℕ = hash_bytes b ++ replicate unused 0 in
    bytes_append (hash_bytes c) ((1 ∷ replicate fill 0) ++ rest) (hash_bytes_lem c)
    (bytes_append (1 ∷ replicate fill 0) rest (counted_one fill)
    (bytes_append (hash_bytes b) (replicate unused 0) (hash_bytes_lem b) (zeros_bytes unused)))

tabled_one : Tabled a_row
tabled_one = record { rows = 1; index = 0 ∷ 0 ∷ []; good = computed.1; bytes = a_bytes }

tabled_three : Tabled all_rows
tabled_three = record { rows = 3; index = all_index; good = computed.3; bytes = all_bytes }

beside_none : (t : List Row) → Beside t []
beside_none t = record { rows = 0; good = (none_waits t).1; bytes = bytes_none }

-- ---- what the hosts have before each round

abbrev at-b : ℕ → List ℕ
at-b zero = a_row
at-b (suc zero) = a_row
at-b (suc (suc zero)) = a_row
at-b (suc (suc (suc k))) = all_rows

abbrev waits_b_lem : ℕ → List ℕ
waits_b_lem zero = []
waits_b_lem (suc zero) = []
waits_b_lem (suc (suc zero)) = c_waits_lem
waits_b_lem (suc (suc (suc k))) = []

abbrev waits_a_lem : ℕ → List ℕ
waits_a_lem k = []

tables_are : (k : ℕ) → held_by_b k ≡ table_of (at-b k)
tables_are zero = sym computed.0
tables_are (suc zero) = sym computed.0
tables_are (suc (suc zero)) = sym computed.0
tables_are (suc (suc (suc k))) = sym computed.2

waits_are : (k : ℕ) → waiting_at_b k ≡ waiting_of (waits_b_lem k)
waits_are zero = sym (none_waits []).0
waits_are (suc zero) = sym (none_waits []).0
waits_are (suc (suc zero)) = sym computed.4
waits_are (suc (suc (suc k))) = sym (none_waits []).0

tabled_b : (k : ℕ) → Tabled (at-b k)
tabled_b zero = tabled_one
tabled_b (suc zero) = tabled_one
tabled_b (suc (suc zero)) = tabled_one
tabled_b (suc (suc (suc k))) = tabled_three

beside_b : (k : ℕ) → Beside (table_of (at-b k)) (waits_b_lem k)
beside_b zero = beside_none (table_of a_row)
beside_b (suc zero) = beside_none (table_of a_row)
beside_b (suc (suc zero)) =
    subst (λ (t : List Row). Beside t c_waits_lem) (sym computed.0) (record { rows = 1; good = computed.5; bytes = waits_bytes })
beside_b (suc (suc (suc k))) = beside_none (table_of all_rows)

settings : GoodSettings set_by_a set_by_b
settings = record { at_a = good_at_a; at_b = good_at_b }

part : Part (table_of all_rows) (table_of a_row)
part =
    subst (λ (A : List Row). Part A (table_of a_row)) (sym computed.2) (subst (λ (B : List Row). Part three B) (sym computed.0) part_one)

-- ---- what the calls are lent

-- A plan's parts, lent as they stand, with some chunks and some buffer.
abbrev pub WriteMet : Host → List ℕ → Buffers → Type 0
WriteMet host plan o =
    (chunks : List ℕ) × (lengths : List ℕ) × (out : List ℕ)
    × WriteLent host plan o (get_or plan 2 0) (take (sizes.hash * get_or plan 5 0) o.heads) (take (sizes.hash * get_or plan 6 0) o.need) o.have
    (have_words_in plan) chunks lengths (get_or plan 3 0) out

write_met : {host : Host} {plan : List ℕ} {o : Buffers} {answer message : List ℕ} → WriteMade host plan o answer message → WriteMet host plan o
write_met w = (
  w.chunks,
  w.lengths,
  w.before,
  record {
    version_is = refl;
    heads_are = refl;
    need_is = refl;
    have_is = refl;
    haves_are = refl;
    flags_are = refl;
    lends = w.lends;
    whole = w.whole;
    room = w.room;
  },
)

hears_met : {table index : List ℕ} {before : ℕ} {message : List ℕ} {m m' : Memory} → Hears table index before message m m' → ReceiveLent 1 message m'.lists
hears_met h = record { good = refl; said = h.said; bytes = h.bytes }

said_speaks : {answer written : List ℕ} {o : Buffers} {hashes : List ℕ} → SaidSo answer written o hashes → speaks answer ≡ true
said_speaks s = rw (s.planned, s.message)

-- ---- a talk of calls, in which A plans with picks or without

module _ (pass : ℕ → Passes) (brings : BringsAll pass) where
  lends : Lends set_by_a set_by_b pass all_rows at-b waits_b_lem waits_a_lem lent
  lends =
      record {
        table_a = tabled_three;
        table_b = tabled_b;
        waits_a = λ k. beside_none (table_of all_rows);
        waits_b = beside_b;
        changes = λ k. record { change = λ h. bytes_none; document = bytes_none };
        out = zeroed_out;
        wide = zeroed_wide;
        buffer = zeroes sizes.message;
        room = zeroes_room sizes.message;
      }

  abbrev ReachedGrants : List Row → (ℕ → List Row) → (ℕ → List Waiting) → (ℕ → List Waiting) → Type 0
  ReachedGrants A B W U = (k : ℕ) → Reached set_by_a set_by_b pass A B W U lent k → Granted set_by_a set_by_b pass A B W U lent k

  granted : AllGranted set_by_a set_by_b pass all_rows at-b waits_b_lem waits_a_lem lent
  granted =
      subst (λ (A : List Row). ReachedGrants A (λ k. table_of (at-b k)) (λ k. waiting_of (waits_b_lem k)) (λ k. waiting_of (waits_a_lem k))) (sym computed.2)
      (subst (λ (U : ℕ → List Waiting). ReachedGrants three (λ k. table_of (at-b k)) (λ k. waiting_of (waits_b_lem k)) U) (fun_ext (λ k. sym (none_waits []).0))
      (subst (λ (W : ℕ → List Waiting). ReachedGrants three (λ k. table_of (at-b k)) W waiting_at_a) (fun_ext waits_are)
      (subst (λ (B : ℕ → List Row). ReachedGrants three B waiting_at_b waiting_at_a) (fun_ext tables_are) (all_granted pass brings))))

  every_change_fits : (k : ℕ) → FitIn (table_of all_rows) (pass k)
  every_change_fits k = subst (λ (A : List Row). FitIn A (pass k)) (sym computed.2) (brings.fits k)

  -- two hosts with memory and buffers of limit size talk for n rounds, and the corollary speaks of it: every premise is met here
  pub calls_example : (n : ℕ) → (talk : TalkOfCalls set_by_a set_by_b pass all_rows at-b waits_b_lem waits_a_lem lent n)
      × CallsEnd set_by_a set_by_b pass all_rows at-b waits_b_lem waits_a_lem lent n talk
  calls_example n =
      let both : Both = record { at_a = zeroed; at_b = zeroed } in
      let talk = calls_go set_by_a set_by_b settings pass all_rows at-b waits_b_lem waits_a_lem lent lends both zeroed_fresh zeroed_fresh n in
      (talk, calls_corollary set_by_a set_by_b settings pass all_rows at-b waits_b_lem waits_a_lem lent n talk tabled_three part (none_waits []).0 every_change_fits granted)

  -- The premises of the contracts of bt_write_message and bt_receive, for both ends of a round.
  pub record RoundLends (k : ℕ) {s s' : Both} (r : CallsRound set_by_a set_by_b pass all_rows at-b waits_b_lem waits_a_lem lent k s s') : Type 0 where
    pub asks : WriteMet (lent k) r.asks.answer r.asks.out'
    pub hears : ReceiveLent 1 r.question r.mid_a.lists
    pub answers : WriteMet (lent k) r.answers.answer r.answers.out'
    pub takes : ReceiveLent 1 r.reply s'.at_b.lists

  -- They are met in the first round of the talk above, in which both ends speak.
  pub contracts_example : RoundLends 0 ((calls_example 1).0.made 0 (omega arith))
  contracts_example =
      let r = (calls_example 1).0.made 0 (omega arith) in
      let so = (calls_example 1).1.all 0 (omega arith) (omega arith) in
      record {
        asks = write_met (r.asks.writes (said_speaks so.asks));
        hears = hears_met r.hears;
        answers = write_met (r.answers.writes (said_speaks so.answers));
        takes = hears_met r.takes;
      }
