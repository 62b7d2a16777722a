use Rattle.mr_values.specs.declared.host.HostCall.TheVariants.{Put}
use Rattle.command_files.specs.declared.fault.RowsFault.TheVariants as fault
use Rattle.command_files.proofs.RowFileSteps.{put_done, put_failed}
use Rattle.command_files.proofs.row_files.put_out.Goals as goal

pub returns-in-Ok-clause-told : goal.returns-in-Ok-clause-told
returns-in-Ok-clause-told g c = λ told.
    put_done c.args.out.now.items c.deref.result.now (g.H.Host.state c.args.host.now) (g.H.Host.state c.put.new.self) c.deref.ensures.value (c.in-Ok.ensures.told told)

pub returns-in-Err-Memory-clause-told : goal.returns-in-Err-Memory-clause-told
returns-in-Err-Memory-clause-told g c = λ told.
    put_failed c.args.out.now.items c.deref.result.now fault.Memory c.in-Err-Memory.field-0 (g.H.Host.state c.args.host.now) (g.H.Host.state c.put.new.self) c.deref.ensures.value (c.in-Err-Memory.ensures.told told) (λ front part. part)

pub returns-in-Err-Failed-clause-told : goal.returns-in-Err-Failed-clause-told
returns-in-Err-Failed-clause-told g c = λ told.
    put_failed c.args.out.now.items c.deref.result.now (fault.HostFault Put) c.in-Err-Failed.field-0 (g.H.Host.state c.args.host.now) (g.H.Host.state c.put.new.self) c.deref.ensures.value (c.in-Err-Failed.ensures.told told) (λ front part. part)
