use Rattle.std.proofs.Common.{◌≡◌, ◌-◌, ◌^◌, ◌∙◌, ℕ, false, List, [], Some, ap, subst, codes}
use Rattle.std.specs.Prelude.{IfOk, option_map}
use Rattle.std.specs.Fmt.{padded_integral, format_spec, styled_digits_output}
use Rattle.host_run.specs.Texts.{native_fault_line}
use Rattle.host_run.proofs.Digits.{digits-line, in_sixteen}
use Rattle.host_run.proofs.texts.native_fault_line.Goals as goal

pub returns : goal.returns
unfolding native_fault_line
returns c =
    let written : styled_digits_output c.in_radix.result c.laid_out.result ≡ Some (in_sixteen c.args.pc) =
    rw c.laid_out.ensures (ap (option_map (padded_integral (format_spec 32 0 4 16 (2 ^ 64 - 1)) false [])) c.in_radix.ensures)
    in
    let whole = digits-line (codes "plhost: native fault at 0x") _ c.args.pc _ written c.in_ok-line.ensures.ok in
    subst (λ (text : List ℕ). IfOk c.copy_of.result (λ line. line ≡ text)) (c.as_bytes.ensures.value ∙ whole) c.copy_of.ensures
