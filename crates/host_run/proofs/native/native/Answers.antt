use Rattle.std.proofs.Common.{[], refl, ap, Some, Err}
use Rattle.host_run.specs.declared.command.Command.TheVariants.{Native}
use Rattle.host_run.specs.Native.{native_of}
use Rattle.host_run.specs.Readings.{readings, names_of}
use Rattle.host_run.proofs.Contents.{obeys-read, obeys-unread, contains-first}
use Rattle.host_run.proofs.native.native.Goals as goal

pub returns-in-Ok : goal.returns-in-Ok
returns-in-Ok g c =
    obeys-read (native_of c.args.lib c.args.symbol c.args.numbers.now) c.args.lib (names_of (readings (Some (Native c.args.lib c.args.symbol c.args.numbers.now)) [])) c.call_in.result _ _ c.in-Ok.bytes
    (rw c.as_str.ensures at c.in-Ok.ensures.whole) c.in-Ok.ensures.of_bytes c.in-Ok.ensures.small c.in-Ok.ensures.uncounted c.in-Ok.ensures.kept (rw c.as_slice.ensures at c.call_in.ensures)

pub returns-in-Err : goal.returns-in-Err
returns-in-Err g c =
    obeys-unread (native_of c.args.lib c.args.symbol c.args.numbers.now) c.args.lib (names_of (readings (Some (Native c.args.lib c.args.symbol c.args.numbers.now)) [])) c.unread.result _ _ c.in-Err.error
    (λ files. contains-first c.args.lib _) (rw c.as_str.ensures at c.in-Err.ensures.whole) (λ e. c.in-Err.ensures.failed (ap Err e)) c.in-Err.ensures.uncounted c.in-Err.ensures.count c.in-Err.ensures.kept c.unread.ensures refl refl
