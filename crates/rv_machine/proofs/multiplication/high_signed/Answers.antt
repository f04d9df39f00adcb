use Rattle.std.proofs.Common.{◌≡◌, ap, ◌∙◌, ◌*ℤ◌, arith}
use Rattle.std.proofs.lemmas.Int.{to_z-of_z}
use Rattle.std.specs.Int.{w64}
use Rattle.std.specs.Int.Signed.{mag}
use Rattle.rv_machine.specs.Words.{word, signed, shifted_right}
use Rattle.rv_machine.proofs.Products.{high_half_is}
use Rattle.rv_machine.proofs.multiplication.high_signed.Goals as goal

pub returns : goal.returns
returns c =
    let x : c.from.result ≡ c.cast_signed.result = c.from.ensures ∙ to_z-of_z w64 _ (record { sfits = c.cast_signed.type_inv }) in
    let y : c.from-2.result ≡ c.cast_signed-2.result = c.from-2.ensures ∙ to_z-of_z w64 _ (record { sfits = c.cast_signed-2.type_inv }) in
    c.extended.ensures
    ∙ ap word (high_half_is c.from.result c.from-2.result (omega (arith, ap mag x, c.cast_signed.type_inv)) (omega (arith, ap mag y, c.cast_signed-2.type_inv)))
    ∙ ap (λ z. word (shifted_right (z *ℤ c.from-2.result) 64)) (x ∙ c.cast_signed.ensures)
    ∙ ap (λ z. word (shifted_right (signed c.args.a *ℤ z) 64)) (y ∙ c.cast_signed-2.ensures)
