use Rattle.std.proofs.Common.{sym, ◌∙◌, arith}
use Rattle.image_kit.specs.AssemblyReads.{Fits}
use Rattle.image_kit.proofs.PlanPieces.{refused}
use Rattle.image_kit.proofs.assembly_plan.AssemblyPlan.fits.Goals as goal

pub returns-then-not-have_few_rows : goal.returns-then-not-have_few_rows
returns-then-not-have_few_rows c = refused c.args.self.now c.have_few_rows.result c.if-not-have_few_rows.true (λ (fits : Fits c.args.self.now). c.have_few_rows.ensures ∙ fits.few)

pub returns-then-not-are_given_once : goal.returns-then-not-are_given_once
returns-then-not-are_given_once c = refused c.args.self.now c.are_given_once.result c.if-not-are_given_once.true (λ (fits : Fits c.args.self.now). c.are_given_once.ensures ∙ fits.tables)

pub returns-then-not-tables_fit : goal.returns-then-not-tables_fit
returns-then-not-tables_fit c = refused c.args.self.now c.tables_fit.result c.if-not-tables_fit.true (λ (fits : Fits c.args.self.now). c.tables_fit.ensures ∙ fits.numbers)

pub returns-then-not-cells_are_sound : goal.returns-then-not-cells_are_sound
returns-then-not-cells_are_sound c = refused c.args.self.now c.cells_are_sound.result c.if-not-cells_are_sound.true (λ (fits : Fits c.args.self.now). c.cells_are_sound.ensures ∙ fits.cells)

pub returns-then-not-bodies_are_alone : goal.returns-then-not-bodies_are_alone
returns-then-not-bodies_are_alone c = refused c.args.self.now c.bodies_are_alone.result c.if-not-bodies_are_alone.true (λ (fits : Fits c.args.self.now). c.bodies_are_alone.ensures ∙ fits.bodies)

pub returns : goal.returns
returns c = (
  λ small. record {
    tables = sym c.are_given_once.ensures ∙ c.if-not-are_given_once.false;
    few = sym c.have_few_rows.ensures ∙ c.if-not-have_few_rows.false;
    numbers = sym c.tables_fit.ensures ∙ c.if-not-tables_fit.false;
    cells = sym c.cells_are_sound.ensures ∙ c.if-not-cells_are_sound.false;
    bodies = sym c.bodies_are_alone.ensures ∙ c.if-not-bodies_are_alone.false;
    small = c.is_small.ensures.0 small;
    entry = omega arith;
  },
  λ fits. c.is_small.ensures.1 fits.small,
)
