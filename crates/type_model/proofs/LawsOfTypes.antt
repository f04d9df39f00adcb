-- Types of accepted files close no circle.
use Rattle.std.proofs.Common.{◌≡◌, ◌≤◌, ℕ, ◌+◌, ◌-◌, ◌<◌, Bool, true, false, not, List, Result, Ok, Err, refl, sym, ap, subst, ◌∙◌, arith}
use Rattle.std.specs.Prelude.{◌&&◌, IsTrue}
use Rattle.std.proofs.lemmas.Bool.{and_parts}
use Rattle.byte_view.specs.Headers.{Headers}
use Rattle.byte_view.specs.Metadata.{Metadata, row_start}
use Rattle.byte_view.specs.Parts as parts
use Rattle.byte_view.specs.Reading.{Broken, must, each, ◌>>=◌}
use Rattle.byte_view.proofs.Reading.{each_ok, must_ok}
use Rattle.graph_cycles.specs.declared.graph.Edge.{Edge}
use Rattle.graph_cycles.specs.Cycles.{OnCycle, is_on_cycle}
use Rattle.graph_cycles.proofs.Walks.{tells}
use Rattle.type_model.specs.Module.{Module, module_of, row_count}
use Rattle.type_model.specs.Rows.{type_defs}
use Rattle.type_model.specs.Part.{extends_edges, nesting_edges, inside_edges, has_field_sigs, is_sound_type, types_part, types_in}
use Rattle.type_model.specs.Laws.{ClosesNoCircle}
use Rattle.type_model.proofs.HeldWithin.{held_within}

no_circle : (edges : List Edge) (t : ℕ) → not (is_on_cycle edges t) ≡ true → ¬ OnCycle edges t
no_circle edges t none circle = clash (is_on_cycle edges t) none (tells edges t t circle)
  where
    clash : (b : Bool) → not b ≡ true → IsTrue b → ⊥
    clash true none is = cc
    clash false none is = cc

sound_parts : (m : Module) (t : ℕ) → is_sound_type m t ≡ true → ClosesNoCircle m t
unfolding is_sound_type
sound_parts m t sound =
    let first = and_parts (not (is_on_cycle (extends_edges m) t) && not (is_on_cycle (nesting_edges m) t) && not (is_on_cycle (inside_edges m) t)) (has_field_sigs m t) sound in
    let second = and_parts (not (is_on_cycle (extends_edges m) t) && not (is_on_cycle (nesting_edges m) t)) (not (is_on_cycle (inside_edges m) t)) first.0 in
    let third = and_parts (not (is_on_cycle (extends_edges m) t)) (not (is_on_cycle (nesting_edges m) t)) second.0 in
    record {
      extends = no_circle (extends_edges m) t third.0;
      encloses = no_circle (nesting_edges m) t third.1;
      holds = λ within. no_circle (inside_edges m) t second.1 (held_within m t t within);
    }

accepted : {A : Type 0} (part : Result ℕ Broken) (x m : A) → (part >>= λ _. Ok x) ≡ Ok m → (y : ℕ) × (part ≡ Ok y) × (x ≡ m)
accepted (Ok y) x m is = (y, refl, cc)
accepted (Err e) x m is = absurd (cc)

pub close_no_circle : (bytes : List ℕ) (headers : Headers) (metadata : Metadata) (m : Module) → types_in bytes headers metadata ≡ Ok m
    → (t : ℕ) → 1 ≤ t → t ≤ row_count m type_defs → ClosesNoCircle m t
unfolding types_in types_part
close_no_circle bytes headers metadata m is t above within =
    let read : Module = module_of bytes headers metadata in
    let step : ℕ → Result ℕ Broken = λ (k : ℕ). must (is_sound_type read (k + 1)) (parts.types, row_start metadata.layout type_defs k) in
    let got = accepted (each step (row_count read type_defs)) read m is in
    let same : read ≡ m = got.2 in
    let few : t - 1 < row_count read type_defs = subst (λ (n : Module). t - 1 < row_count n type_defs) (sym same) (omega arith) in
    let passed = each_ok step (row_count read type_defs) got.0 got.1 (t - 1) few in
    let back : t - 1 + 1 ≡ t = omega arith in
    let sound : is_sound_type read (t - 1 + 1) ≡ true = must_ok (is_sound_type read (t - 1 + 1)) (parts.types, row_start metadata.layout type_defs (t - 1)) passed.0 passed.1 in
    subst (λ (n : Module). ClosesNoCircle n t) same (sound_parts read t (ap (is_sound_type read) (sym back) ∙ sound))
