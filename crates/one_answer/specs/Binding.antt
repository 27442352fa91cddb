-- 01, How tightly the statements bind: of every public call, as docs/API.md lists them, but for those that docs/LOOSE.md names, and of every
-- exported one.
use Rattle.one_answer.specs.Exported.{ExportedBind}
use Rattle.one_answer.specs.Messages.{MessagesBind}
use Rattle.one_answer.specs.Sessions.{SessionsBind}
use Rattle.one_answer.specs.Tables.{TablesBind}
use Rattle.one_answer.specs.Wire.{WireBind}

-- All public contracts, in five parts by layer.
pub record Binding : Type 0 where
  pub wire : WireBind
  pub tables : TablesBind
  pub messages : MessagesBind
  pub sessions : SessionsBind
  pub exported : ExportedBind
