use Rattle.std.proofs.Common.{Err, inl, refl}
use Rattle.std.proofs.lemmas.Result.{err_from_is_err_and}
use Rattle.command_files.specs.declared.fault.WriteFault.TheVariants as written
use Rattle.demo_command.proofs.demo.Goals as goal

pub returns-in_err-text-clause-told : goal.returns-in_err-text-clause-told
returns-in_err-text-clause-told g c =
    let p = err_from_is_err_and c.from_residual.result c.from_residual.ensures.1 in
    rw (p.1, p.2) (λ told. (Err written.Memory, (refl, inl refl)))
