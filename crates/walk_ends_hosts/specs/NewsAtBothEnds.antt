-- Both ends have news, and the calls bring both to the joint set: M-111 whole, in one place. To be opened first; the words are said in walk_ends (Ends: an end, a
-- message, an exchange; Joint: the joint set), in walk_ends_sessions (TalkEnds: sessions through bytes) and here (CallsEnds: the calls).
--
-- What is given. Two good tables that give equal hashes equal dependencies, nothing waits at either end. Each message's filter is built with any allowed pair of bits
-- and probes (M-107), and for each message a pick is passed or none (M-110): a pick is accepted, and every change fits its budget. For sessions beside that: both
-- fresh, either may be the one that speaks first, the joint set within the row limit, and each message until both hold the joint set goes by list, is within its
-- size, arrives and loads. For calls beside that: tables and waiting tables as bytes that no call refuses, each change table with an index that fits it, and
-- buffers of limit size.
--
-- What is not promised. Anything of an end without rows, or of a list that is longer than a third of its end's rows: both are sent as the document. Anything where
-- changes are made meanwhile or messages get lost.
use Rattle.walk_ends.specs.Joint.{M111}
use Rattle.walk_ends_hosts.specs.CallsEnds.{CallsAreUnits, CallsStateEnds, CallsMeetEnds, CallsGoEnds}
use Rattle.walk_ends_sessions.specs.TalkEnds.{SessionsAreEnds, SessionsMeet}

-- What is proved of it, each part with the sentence that it is.
pub record NewsAtBothEnds : Type 0 where
  -- two tables that agree have a joint set; both ends hold it after at most max(j, k) + 1 exchanges, no row crosses twice in a direction or goes to an end that has
  -- it, j rows go one way and k the other, and an exchange can always follow
  pub ends : M111
  -- two fresh sessions, speaking through bytes, state the heads, needs, haves and lists of such ends until both hold the joint set
  pub sessions : SessionsAreEnds
  -- and so do after as many exchanges, none of their messages a reset, refused or missing
  pub meet : SessionsMeet
  -- two hosts that make the exported calls in turn hold just these sessions
  pub calls : CallsAreUnits
  -- what their plan calls put is what the ends state
  pub states : CallsStateEnds
  -- through the exported calls too both hold the joint set after as many exchanges, and each call answers 0
  pub called : CallsMeetEnds
  -- a talk in which two hosts make the exported calls in turn can always be made
  pub goes : CallsGoEnds
