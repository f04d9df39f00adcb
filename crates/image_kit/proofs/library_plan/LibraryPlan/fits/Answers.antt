use Rattle.std.proofs.Common.{refl}
use Rattle.std.proofs.lemmas.Bool.{false≢true}
use Rattle.image_kit.proofs.Fitting.{names_fail, fits_by_size}
use Rattle.image_kit.proofs.library_plan.LibraryPlan.fits.Goals as goal

pub returns-then-not-names_have_no_zero : goal.returns-then-not-names_have_no_zero
returns-then-not-names_have_no_zero c =
    (λ e. absurd (false≢true e), names_fail c.args.self.now c.as_slice-2.result.now c.as_slice-2.ensures c.if-not-names_have_no_zero.ensures.1)

pub returns : goal.returns
returns c =
    fits_by_size c.args.self.now c.as_slice.result.now c.as_slice-2.result.now c.file_size.result c.as_slice.ensures c.as_slice-2.ensures (c.if-not-all_encode.ensures.0 refl) (c.if-not-names_have_no_zero.ensures.0 refl) c.file_size.ensures
