-- A validator that falls behind catches up, and the calls do it: demand 3 whole, in one place. To be opened first; the words are said in walk (Round: what one
-- end states and names; Walk: rounds), in walk_sessions (Talk: sessions through bytes) and here (Memory: what a host keeps and
-- lends; Calls, States, Contracts); with picks in walk_picked (PickedWalk) and walk_sessions (Passing).
--
-- What is given. A is a good table within the limits, B a dependency-closed part of it, nothing waits. Each end builds its filters with any allowed pair of
-- bits and probes, another in each round (02, M-107): one with which filters over any rows keep the filter rules (SettingGood, bloom Filter), as 10 and 7 do.
-- In each round A passes a pick or none (02, M-110): a pick is accepted, and every change fits its budget.
-- For sessions: both fresh, B speaks first, and in each round until B holds A the reply goes by list, its message is within its size, arrives and loads, and
-- what waits stays within its limit. For calls beside that: tables as bytes, each with an index that fits it, and buffers of limit size, so that neither 12
-- nor 7 is ever answered.
--
-- What is not promised. Anything of a B without rows, or of a reply that is longer than a third of the rows and goes to a peer that knows V2: both are
-- sent the document. Anything where changes are made meanwhile or messages get lost. How many false yeses there are.
use Rattle.walk_picked.specs.PickedWalk.{M110}
use Rattle.walk_sessions.specs.Passing.{PassedWalks}
use Rattle.walk_sessions.specs.Talk.{Theorem2, Sessions01, SessionsPicked, Corollary}
use Rattle.walk.specs.Walk.{Walk01Walks, Round01Rounds, Walk01New, Walk01Goes, Theorem1}
use Rattle.walk_hosts.specs.Calls.{CallsAreSteps, CallsCorollary, CallsGo}
use Rattle.walk_hosts.specs.CallContracts.{Contracts}
use Rattle.walk_hosts.specs.States.{CallsState}

-- What is proved of a catch-up, each part with the sentence that it is.
pub record Demand : Type 0 where
  -- the walk ends: B holds A after at most m + 1 rounds; no row that it held is named, none twice, m rows in all
  pub ends : Theorem1
  -- 01's own walk is such a walk, each round of it such a round
  pub walk : Walk01Walks
  pub rounds : Round01Rounds
  -- no row that B held is in a reply of 01's walk, and 01's walk can always go on
  pub new : Walk01New
  pub walks : Walk01Goes
  -- M-110: so does the walk in which each reply is an accepted pick
  pub picks : M110
  -- a walk in which picks are passed or not is 01's own where none is, that with picks where one is in each round, and always one of the first sentence
  pub passed : PassedWalks
  -- two fresh sessions, speaking through bytes, state the heads, needs, haves and replies of such a walk, with the filters that B builds
  pub sessions : Theorem2
  -- of 01's own walk where no pick is passed, of the walk with picks where one is in each round
  pub sessions01 : Sessions01
  pub sessions_picked : SessionsPicked
  -- after at most 2 (m + 1) messages, none a reset and none refused, the validator holds the station's table
  pub caught_up : Corollary
  -- two hosts that make the exported calls in turn, each planning with its pair of the round and A with what it passes, hold just these sessions
  pub calls : CallsAreSteps
  -- what the hosts' plan calls put is what the walk states: heads, needs, haves and replies
  pub states : CallsState
  -- through the exported calls too the validator holds the station's table after as many messages, and each call answers 0
  pub called : CallsCorollary
  -- a talk in which two hosts make the exported calls in turn can always be made
  pub goes : CallsGo
  -- what is said of the calls here is what the exported functions' own contracts say
  pub contracts : Contracts
