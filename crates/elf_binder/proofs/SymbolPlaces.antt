-- The symbol of a number.
use Rattle.std.proofs.Common.{◌≡◌, ℕ, Bool, true, false, List, Option, Some, None, option_map, map, refl, ◌∙◌, arith}
use Rattle.std.specs.Prelude.{slice_get, nat_eq, option_and_then, if◌then◌else◌}
use Rattle.std.proofs.lemmas.Bool.Decides.{nat_tests}
use Rattle.std.proofs.lemmas.Option.{slice_get-map}
use Rattle.elf_reader.specs.declared.elf.Symbol as read
use Rattle.elf_reader.specs.Elf.{symbol_of}
use Rattle.elf_binder.specs.declared.relocation.Kind.{Kind}
use Rattle.elf_binder.specs.Modules.{Module}
use Rattle.elf_binder.specs.Relocating.{named_value, symbol_value}

pub symbol_zero : (modules : List Module) (symbols : List read.Symbol) (kind : Kind) → Some 0 ≡ symbol_value modules (map symbol_of symbols) kind 0
unfolding symbol_value
symbol_zero modules symbols kind = refl

some_number : {A : Type 0} (zero_number : Bool) (number : ℕ) (x y : A) → nat_eq number 0 ≡ zero_number → (number ≡ 0 → ⊥) → (if zero_number then x else y) ≡ y
some_number true number x y is some = absurd (some (grind (arith, nat_tests, is)))
some_number false number x y is some = refl

of_found : (modules : List Module) (kind : Kind) (found : Option read.Symbol)
    → option_and_then (named_value modules kind) (option_map symbol_of found) ≡ option_and_then (λ symbol. named_value modules kind (symbol_of symbol)) found
of_found modules kind None = refl
of_found modules kind (Some symbol) = refl

pub value_of_symbol : (modules : List Module) (symbols : List read.Symbol) (kind : Kind) (number : ℕ) (found : Option read.Symbol) → (number ≡ 0 → ⊥) → slice_get symbols number ≡ found
    → symbol_value modules (map symbol_of symbols) kind number ≡ option_and_then (λ symbol. named_value modules kind (symbol_of symbol)) found
unfolding symbol_value
value_of_symbol modules symbols kind number found some is =
    some_number (nat_eq number 0) number _ _ refl some ∙ rw (slice_get-map symbol_of symbols number, is) (of_found modules kind found)
