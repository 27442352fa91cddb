-- What a talk of calls takes each call for is that call's contract: PlanMade, WriteMade, Hears and Fresh, held beside the arguments in the order in which C
-- lends them. 01, The catch-up walk, its last rule, is about the session calls; so nothing of it rests on reading a contract beside Calls.antt.
use Rattle.std.specs.Prelude.{ℕ, ◌*◌, ◌≤◌, true, cond, List, [], ◌≡◌, eqb, length, get_or, take, Ok}
use contract.Lifetimes.{Lfts}
use denote.Triple.Clauses.{AtExit}
use denote.Triple.Entry.{Args}
use Rattle.bloom.specs.Filter.{default_setting, SettingGood}
use Rattle.call_words.specs.Ties.{Ties}
use Rattle.session_check.specs.SessionGood.{lent_of}
use Rattle.walk_hosts.specs.Memory.{OfBytes, Roomy, Fresh}
use Rattle.message.specs.Message.{total}
use Rattle.message.specs.Write.{chunks_from}
use Rattle.rules.specs.Hash.{Bytes, hashes_at}
use Rattle.rules.specs.Passed.{passed_hashes}
use Rattle.rules.specs.Sizes.{sizes}
use Rattle.call_words.specs.SessionWords.{flag_of}
use Rattle.session_state.specs.Value.{Lent}
use Rattle.walk_hosts.specs.Calls.{have_words_in, plan_in, PlanMade, WriteMade, Hears}
use Rattle.plan_calls.specs.contracts.calls.bt_plan as of-bt-plan
use Rattle.plan_calls.proofs.calls.bt_plan.Reads as reads-bt-plan
use Rattle.plan_calls.specs.contracts.plan_with.bt_plan_with as of-bt-plan-with
use Rattle.plan_calls.proofs.plan_with.bt_plan_with.Reads as reads-bt-plan-with
use Rattle.plan_calls.specs.contracts.plan_settled.bt_plan_settled as of-bt-plan-settled
use Rattle.plan_calls.proofs.plan_settled.bt_plan_settled.Reads as reads-bt-plan-settled
use Rattle.plan_calls.specs.contracts.plan_picked.bt_plan_picked as of-bt-plan-picked
use Rattle.plan_calls.proofs.plan_picked.bt_plan_picked.Reads as reads-bt-plan-picked
use Rattle.receive_calls.specs.contracts.calls.bt_receive as of-bt-receive
use Rattle.receive_calls.proofs.calls.bt_receive.Reads as reads-bt-receive
use Rattle.message_calls.specs.contracts.calls.bt_write_message as of-bt-write-message
use Rattle.message_calls.proofs.calls.bt_write_message.Reads as reads-bt-write-message
use Rattle.state_calls.specs.contracts.calls.bt_fresh as of-bt-fresh
use Rattle.state_calls.proofs.calls.bt_fresh.Reads as reads-bt-fresh
use Rattle.session.specs.PlanCall.{Buffers}
use Rattle.settings.specs.Settings.{setting_for}
use Rattle.settings.specs.declared.choice.Choice.{Choice}
use Rattle.session.specs.Written.{Host, chunks_for}
use Rattle.walk_sessions.specs.Passing.{Passes}

-- bt_plan, over a host's memory, its tables and its buffers: what it leaves is PlanMade with 10 and 7. What slices of bytes hold are bytes.
abbrev pub PlanSaid : (κs : Lfts (of-bt-plan.ended).signature.lifetimes) → Args (of-bt-plan.ended).signature κs → AtExit of-bt-plan.ended κs → Type 0
PlanSaid κs
    (session, (shared, (last-sent, (their-heads, (their-need, (haves, (bytes, (sent, (table, (index, (waiting, (heads, (need, (have, (list, (answer, _))))))))))))))))
    (session', (_, (last-sent', (_, (_, (_, (_, (sent', (_, (_, (_, (heads', (need', (have', (list', (answer', _)))))))))))))))) =
    OfBytes (lent_of shared.now last-sent'.now their-heads.now their-need.now haves.now bytes.now sent'.now)
    → PlanMade default_setting Passes.all table.now index.now waiting.now
    (record {
      words = session.now;
      lists = lent_of shared.now last-sent.now their-heads.now their-need.now haves.now bytes.now sent.now;
    })
    (record {
      words = session'.now;
      lists = lent_of shared.now last-sent'.now their-heads.now their-need.now haves.now bytes.now sent'.now;
    })
    (record { heads = heads.now; need = need.now; have = have.now; list = list.now })
    (record { heads = heads'.now; need = need'.now; have = have'.now; list = list'.now })
    answer'.now

-- bt_plan_with, with a pair that filters may be built with: what it leaves is PlanMade with that pair.
abbrev pub PlanWithSaid : (κs : Lfts (of-bt-plan-with.ended).signature.lifetimes) → Args (of-bt-plan-with.ended).signature κs → AtExit of-bt-plan-with.ended κs → Type 0
PlanWithSaid κs
    (bits, (probes, (session, (shared, (last-sent, (their-heads, (their-need, (haves, (bytes, (sent, (table, (index, (waiting, (heads, (need, (have, (list, (answer, _))))))))))))))))))
    (_, (_, (session', (_, (last-sent', (_, (_, (_, (_, (sent', (_, (_, (_, (heads', (need', (have', (list', (answer', _)))))))))))))))))) =
    SettingGood bits probes
    → OfBytes (lent_of shared.now last-sent'.now their-heads.now their-need.now haves.now bytes.now sent'.now)
    → PlanMade (record { bits = bits; probes = probes }) Passes.all table.now index.now waiting.now
    (record {
      words = session.now;
      lists = lent_of shared.now last-sent.now their-heads.now their-need.now haves.now bytes.now sent.now;
    })
    (record {
      words = session'.now;
      lists = lent_of shared.now last-sent'.now their-heads.now their-need.now haves.now bytes.now sent'.now;
    })
    (record { heads = heads.now; need = need.now; have = have.now; list = list.now })
    (record { heads = heads'.now; need = need'.now; have = have'.now; list = list'.now })
    answer'.now

-- bt_plan_settled, where the list answers a choice: what it leaves is PlanMade with its bits and probes.
abbrev pub PlanSettledSaid : (κs : Lfts (of-bt-plan-settled.ended).signature.lifetimes) → Args (of-bt-plan-settled.ended).signature κs → AtExit of-bt-plan-settled.ended κs → Type 0
PlanSettledSaid κs
    (settings, (station, (version, (session, (shared, (last-sent, (their-heads, (their-need, (haves, (bytes, (sent, (table, (index, (waiting, (heads, (need, (have, (list, (answer, _)))))))))))))))))))
    (_, (_, (_, (session', (_, (last-sent', (_, (_, (_, (_, (sent', (_, (_, (_, (heads', (need', (have', (list', (answer', _))))))))))))))))))) =
    (c : Choice)
    → setting_for settings.now station version ≡ Ok c
    → OfBytes (lent_of shared.now last-sent'.now their-heads.now their-need.now haves.now bytes.now sent'.now)
    → PlanMade (record { bits = c.bits; probes = c.probes }) Passes.all table.now index.now waiting.now
    (record {
      words = session.now;
      lists = lent_of shared.now last-sent.now their-heads.now their-need.now haves.now bytes.now sent.now;
    })
    (record {
      words = session'.now;
      lists = lent_of shared.now last-sent'.now their-heads.now their-need.now haves.now bytes.now sent'.now;
    })
    (record { heads = heads.now; need = need.now; have = have.now; list = list.now })
    (record { heads = heads'.now; need = need'.now; have = have'.now; list = list'.now })
    answer'.now

-- bt_plan_picked, where the list answers a choice and the pick's bytes are whole hashes: what it leaves is PlanMade with its bits and probes and that pick.
abbrev pub PlanPickedSaid : (κs : Lfts (of-bt-plan-picked.ended).signature.lifetimes) → Args (of-bt-plan-picked.ended).signature κs → AtExit of-bt-plan-picked.ended κs → Type 0
PlanPickedSaid κs
    (settings, (station, (version, (row-sizes, (budget, (pick, (session, (shared, (last-sent, (their-heads, (their-need, (haves, (bytes, (sent, (table, (index, (waiting, (heads, (need, (have, (list, (answer, _))))))))))))))))))))))
    (_, (_, (_, (_, (_, (_, (session', (_, (last-sent', (_, (_, (_, (_, (sent', (_, (_, (_, (heads', (need', (have', (list', (answer', _)))))))))))))))))))))) =
    (c : Choice) (n : ℕ)
    → setting_for settings.now station version ≡ Ok c
    → passed_hashes pick.now ≡ Ok n
    → OfBytes (lent_of shared.now last-sent'.now their-heads.now their-need.now haves.now bytes.now sent'.now)
    → PlanMade (record { bits = c.bits; probes = c.probes }) (Passes.picked row-sizes.now budget (hashes_at pick.now 0 n)) table.now index.now waiting.now
    (record {
      words = session.now;
      lists = lent_of shared.now last-sent.now their-heads.now their-need.now haves.now bytes.now sent.now;
    })
    (record {
      words = session'.now;
      lists = lent_of shared.now last-sent'.now their-heads.now their-need.now haves.now bytes.now sent'.now;
    })
    (record { heads = heads.now; need = need.now; have = have.now; list = list.now })
    (record { heads = heads'.now; need = need'.now; have = have'.now; list = list'.now })
    answer'.now

-- What a host lends to bt_write_message for a plan: its parts as they stand, the chunks that the host has for it, and a buffer of limit size.
pub record WriteLent (host : Host) (plan : List ℕ) (o : Buffers) (version : ℕ) (heads need have haves chunks lengths : List ℕ) (flags : ℕ) (out : List ℕ) : Type 0
  where
    pub version_is : version ≡ get_or plan 2 0
    pub heads_are : heads ≡ take (sizes.hash * get_or plan 5 0) o.heads
    pub need_is : need ≡ take (sizes.hash * get_or plan 6 0) o.need
    pub have_is : have ≡ o.have
    pub haves_are : haves ≡ have_words_in plan
    pub flags_are : flags ≡ get_or plan 3 0
    pub lends : chunks_from chunks 0 lengths ≡ chunks_for host (plan_in plan o)
    pub whole : total lengths ≤ length chunks
    pub room : sizes.message ≤ length out

-- bt_write_message, lent this for a plan: what it leaves is WriteMade.
abbrev pub WriteSaid : (κs : Lfts (of-bt-write-message.ended).signature.lifetimes) → Args (of-bt-write-message.ended).signature κs
    → AtExit of-bt-write-message.ended κs
    → Type 0
WriteSaid κs
    (version, (heads, (need, (bytes, (haves, (chunks, (lengths, (flags, (out, (answer, _))))))))))
    (_, (_, (_, (_, (_, (_, (_, (_, (out', (answer', _)))))))))) =
    (host : Host) (plan : List ℕ) (o : Buffers)
    → WriteLent host plan o version heads.now need.now bytes.now haves.now chunks.now lengths.now flags out.now
    → WriteMade host plan o answer'.now (cond (eqb (get_or answer'.now 0 0) 0) (take (get_or answer'.now 1 0) out'.now) [])

-- What bt_receive is told and lent: that the message's changes have loaded, and bytes in the message and in the lists.
pub record ReceiveLent (loaded : ℕ) (message : List ℕ) (lists : Lent) : Type 0 where
  pub good : flag_of loaded ≡ true
  pub said : Bytes message
  pub bytes : OfBytes lists

-- bt_receive, over a host's memory and its table after loading, told and lent this: what it leaves is Hears, with its answer.
abbrev pub ReceiveSaid : (κs : Lfts (of-bt-receive.ended).signature.lifetimes) → Args (of-bt-receive.ended).signature κs
    → AtExit of-bt-receive.ended κs
    → Type 0
ReceiveSaid κs
    (session, (shared, (last-sent, (their-heads, (their-need, (haves, (bytes, (sent, (table, (index, (before, (message, (loaded, (answer, _))))))))))))))
    (session', (shared', (last-sent', (their-heads', (their-need', (haves', (bytes', (sent', (_, (_, (_, (_, (_, (answer', _)))))))))))))) =
    ReceiveLent loaded message.now (lent_of shared'.now last-sent'.now their-heads'.now their-need'.now haves'.now bytes'.now sent'.now)
    → (h : Hears table.now index.now before message.now
    (record {
      words = session.now;
      lists = lent_of shared.now last-sent.now their-heads.now their-need.now haves.now bytes.now sent.now;
    })
    (record {
      words = session'.now;
      lists = lent_of shared'.now last-sent'.now their-heads'.now their-need'.now haves'.now bytes'.now sent'.now;
    }))
    × (h.answer ≡ answer'.now)

-- bt_fresh, whose words stand beside lists of bytes with room: what it leaves is Fresh.
abbrev pub FreshSaid : (κs : Lfts (of-bt-fresh.ended).signature.lifetimes) → Args (of-bt-fresh.ended).signature κs → AtExit of-bt-fresh.ended κs → Type 0
FreshSaid κs _ (session', _) = (lists : Lent) → OfBytes lists → Roomy lists → Fresh (record { words = session'.now; lists = lists })

-- The calls that a talk is made of: four that plan, and one each that writes, receives and begins.
pub record Contracts : Type 0 where
  pub plan : Ties of-bt-plan.ended reads-bt-plan.Post PlanSaid
  pub plan_with : Ties of-bt-plan-with.ended reads-bt-plan-with.Post PlanWithSaid
  pub plan_settled : Ties of-bt-plan-settled.ended reads-bt-plan-settled.Post PlanSettledSaid
  pub plan_picked : Ties of-bt-plan-picked.ended reads-bt-plan-picked.Post PlanPickedSaid
  pub write : Ties of-bt-write-message.ended reads-bt-write-message.Post WriteSaid
  pub receive : Ties of-bt-receive.ended reads-bt-receive.Post ReceiveSaid
  pub fresh : Ties of-bt-fresh.ended reads-bt-fresh.Post FreshSaid
