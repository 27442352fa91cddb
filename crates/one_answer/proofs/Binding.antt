-- Every contract of the lists binds. Assumes nothing.
use Rattle.one_answer.specs.Binding.{Binding}
use Rattle.one_answer.proofs.Exported.{exported_bind}
use Rattle.one_answer.proofs.Messages.{messages_bind}
use Rattle.one_answer.proofs.Sessions.{sessions_bind}
use Rattle.one_answer.proofs.Tables.{tables_bind}
use Rattle.one_answer.proofs.Wire.{wire_bind}

pub binding : Binding
binding = record { wire = wire_bind; tables = tables_bind; messages = messages_bind; sessions = sessions_bind; exported = exported_bind }
