-- The part `types` is refused at the first type that isn't sound.
use Rattle.std.proofs.Common.{◌≡◌, ℕ, zero, suc, ◌+◌, ◌-◌, ◌<◌, ◌≤◌, List, length, Option, Some, Result, Ok, Err, refl, sym, ap, subst, ◌∙◌, arith, add-one}
use Rattle.std.proofs.lemmas.Bool.{lt-ltb}
use Rattle.bound_base.specs.declared.image.BadImage.{BadImage}
use Rattle.bound_base.specs.Image.{refusal}
use Rattle.byte_view.specs.Headers.{Headers}
use Rattle.byte_view.specs.Metadata.{Metadata, table_of, row_place, row_start}
use Rattle.byte_view.specs.Parts as parts
use Rattle.byte_view.specs.Reading.{Broken, must, each, Refuses, RefusedBy}
use Rattle.byte_view.proofs.Reading.{each_none, each_more, each_fails, must_pass, must_fail}
use Rattle.type_model.specs.Module.{Module, module_of, row_count}
use Rattle.type_model.specs.Rows.{type_defs}
use Rattle.type_model.specs.Part.{is_sound_type, types_part}
use Rattle.type_model.specs.Sound.{IsFirstUnsound, AllSound}

pub place_of : (m : Metadata) (t : ℕ) → 1 ≤ t → t ≤ length (table_of m type_defs) → row_place m type_defs t ≡ Some (row_start m.layout type_defs (t - 1))
place_of m zero above within = absurd (omega arith)
place_of m (suc n) above within =
    let before : suc n - 1 ≡ n = omega arith in
    rw (before, lt-ltb n (length (table_of m type_defs)) (omega arith)) refl

abbrev step : Metadata → Module → ℕ → Result ℕ Broken
step metadata m k = must (is_sound_type m (k + 1)) (parts.types, row_start metadata.layout type_defs k)

abbrev tests : Metadata → Module → Result ℕ Broken
tests metadata m = each (step metadata m) (row_count m type_defs)

part_is : (m : Module) (metadata : Metadata) → m ≡ module_of m.bytes m.headers metadata → types_part m.bytes m.headers metadata ≡ tests metadata m
unfolding types_part
part_is m metadata is = ap (tests metadata) (sym is)

rows_of : (bytes : List ℕ) (headers : Headers) (metadata : Metadata) → row_count (module_of bytes headers metadata) type_defs ≡ length (table_of metadata type_defs)
rows_of bytes headers metadata = refl

pub count_of : (m : Module) (metadata : Metadata) → m ≡ module_of m.bytes m.headers metadata → row_count m type_defs ≡ length (table_of metadata type_defs)
count_of m metadata is = ap (λ (n : Module). row_count n type_defs) is ∙ rows_of m.bytes m.headers metadata

all_pass : (test : ℕ → Result ℕ Broken) (n : ℕ) → ((k : ℕ) → k < n → test k ≡ Ok 0) → each test n ≡ Ok 0
all_pass test zero pass = each_none test
all_pass test (suc n) pass =
    subst (λ (k : ℕ). each test k ≡ Ok 0) (add-one n)
    (each_more test n 0 0 (all_pass test n (λ k below. pass k (omega arith))) (pass n (omega arith)))

pub passes : (m : Module) (metadata : Metadata) → m ≡ module_of m.bytes m.headers metadata → AllSound m → types_part m.bytes m.headers metadata ≡ Ok 0
passes m metadata is sound =
    part_is m metadata is
    ∙ all_pass (step metadata m) (row_count m type_defs) (λ k below.
    must_pass (is_sound_type m (k + 1)) (parts.types, row_start metadata.layout type_defs k) (sound (k + 1) (omega arith) (omega arith)))

pub refused : (e : BadImage) (m : Module) (metadata : Metadata) (t : ℕ) → m ≡ module_of m.bytes m.headers metadata → IsFirstUnsound m t
    → refusal e ≡ Some (parts.types, row_start metadata.layout type_defs (t - 1)) → Refuses refusal e (types_part m.bytes m.headers metadata)
refused e m metadata t is first says =
    let exists = first.exists in
    let within = first.within in
    let this : t - 1 + 1 ≡ t = omega (arith, exists) in
    let before : each (step metadata m) (t - 1) ≡ Ok 0 =
    all_pass (step metadata m) (t - 1) (λ k below.
    must_pass (is_sound_type m (k + 1)) (parts.types, row_start metadata.layout type_defs k) (first.before (k + 1) (omega arith) (omega arith))) in
    let fails : step metadata m (t - 1) ≡ Err (parts.types, row_start metadata.layout type_defs (t - 1)) =
    must_fail (is_sound_type m (t - 1 + 1)) (parts.types, row_start metadata.layout type_defs (t - 1)) (ap (is_sound_type m) this ∙ first.unsound) in
    subst (λ (said : Option Broken). RefusedBy said (types_part m.bytes m.headers metadata)) (sym says)
    (part_is m metadata is
    ∙ each_fails (step metadata m) (t - 1) (row_count m type_defs) 0 (parts.types, row_start metadata.layout type_defs (t - 1)) before fails (omega (arith, exists, within)))
