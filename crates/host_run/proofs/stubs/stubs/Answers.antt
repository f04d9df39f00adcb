use Rattle.std.proofs.Common.{[], refl, ap, Some, Err}
use Rattle.type_model.specs.Part.{assembly_types}
use Rattle.host_run.specs.declared.command.Command.TheVariants.{Stubs}
use Rattle.host_run.specs.Stubs.{stubs_of}
use Rattle.host_run.specs.Readings.{readings, names_of}
use Rattle.host_run.proofs.Contents.{obeys-read, obeys-unread, contains-first}
use Rattle.host_run.proofs.stubs.stubs.Goals as goal

pub returns-in-Ok : goal.returns-in-Ok
returns-in-Ok g c =
    obeys-read (λ bytes. stubs_of (assembly_types bytes)) c.args.file (names_of (readings (Some (Stubs c.args.file)) [])) c.put_stubs_of.result _ _ c.in-Ok.bytes
    (rw c.as_str.ensures at c.in-Ok.ensures.whole) c.in-Ok.ensures.of_bytes c.in-Ok.ensures.small c.in-Ok.ensures.uncounted c.in-Ok.ensures.kept (rw c.as_slice.ensures at c.put_stubs_of.ensures)

pub returns-in-Err : goal.returns-in-Err
returns-in-Err g c =
    obeys-unread (λ bytes. stubs_of (assembly_types bytes)) c.args.file (names_of (readings (Some (Stubs c.args.file)) [])) c.unread.result _ _ c.in-Err.error
    (λ files. contains-first c.args.file _) (rw c.as_str.ensures at c.in-Err.ensures.whole) (λ e. c.in-Err.ensures.failed (ap Err e)) c.in-Err.ensures.uncounted c.in-Err.ensures.count c.in-Err.ensures.kept c.unread.ensures refl refl
