-- The calls of a round state the walk's heads, need, haves and reply. 01, The catch-up walk, its last rule.
use Rattle.std.specs.Prelude.{ℕ, suc, ◌<◌, List, [], ◌≡◌}
use Rattle.bloom.specs.declared.setting.Setting.{Setting}
use Rattle.walk_hosts.specs.Memory.{Tabled}
use Rattle.table.specs.TableBytes.{table_of}
use Rattle.walk_sessions.specs.Passing.{Passes, FitIn}
use Rattle.walk_sessions.specs.Talk.{PassAccepted, Underway, WalkStated}
use Rattle.waiting.specs.WaitingBytes.{waiting_of}
use Rattle.walk.specs.Round.{Part}
use Rattle.walk_hosts.specs.Calls.{plan_in, Both, GoodSettings, CallsRound, TalkOfCalls, A, B, W, U}
use Rattle.session.specs.Written.{Host}

-- What both plan calls of round k put into words and buffers are the plans that `WalkStated` (walk_sessions Talk) holds beside the walk: B's heads, need and haves, A's
-- reply.
pub record CallsStated (setA set_b : ℕ → Setting) (pass : ℕ → Passes) (a : List ℕ) (b w u : ℕ → List ℕ) (hosts : ℕ → Host) (k : ℕ) (s s' : Both)
    (r : CallsRound setA set_b pass a b w u hosts k s s') : Type 0 where
  pub stated : WalkStated setA set_b pass (A setA set_b pass a b w u hosts) (B setA set_b pass a b w u hosts) (W setA set_b pass a b w u hosts) (U setA set_b pass a b w u hosts) hosts k
  pub asks : plan_in r.asks.answer r.asks.out' ≡ stated.round.said
  pub answers : plan_in r.answers.answer r.answers.out' ≡ stated.round.reply

-- Round by round, as long as what 01 grants was so in the rounds before, and what A passes is accepted.
abbrev pub CallsState : Type 0
CallsState = (setA set_b : ℕ → Setting) → GoodSettings setA set_b
    → (pass : ℕ → Passes) (a : List ℕ) (b w u : ℕ → List ℕ) (hosts : ℕ → Host) (n : ℕ) (talk : TalkOfCalls setA set_b pass a b w u hosts n)
    → Tabled a
    → Part (table_of a) (table_of (b 0))
    → waiting_of (w 0) ≡ []
    → ((k : ℕ) → FitIn (table_of a) (pass k))
    → (k : ℕ) (h : k < n)
    → Underway setA set_b pass (A setA set_b pass a b w u hosts) (B setA set_b pass a b w u hosts) (W setA set_b pass a b w u hosts) (U setA set_b pass a b w u hosts) hosts k
    → PassAccepted setA set_b pass (A setA set_b pass a b w u hosts) (B setA set_b pass a b w u hosts) (W setA set_b pass a b w u hosts) (U setA set_b pass a b w u hosts) hosts k
    → CallsStated setA set_b pass a b w u hosts k (talk.at k) (talk.at (suc k)) (talk.made k h)
