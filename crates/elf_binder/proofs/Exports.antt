-- What symbols export, one symbol after another.
use Rattle.std.proofs.Common.{◌≡◌, ℕ, ◌+◌, ◌<◌, Bool, true, false, cond, List, [], ◌∷◌, ◌++◌, map, length, get_or, take, ◌&&◌, ◌||◌, not, ◌==◌, inl, inr, refl, sym, ap, ◌∙◌}
use Rattle.std.specs.Prelude.{filter}
use Rattle.std.proofs.lemmas.List.{map-append, append-nil, take_more}
use Rattle.std.proofs.lemmas.List.Elements.{filter-append}
use Rattle.byte_view.specs.ElfSymbols as symbols
use Rattle.elf_reader.specs.declared.elf.Symbol.{Symbol}
use Rattle.elf_reader.specs.Elf.{symbol_of}
use Rattle.elf_binder.specs.declared.module.Export.{Export}
use Rattle.elf_binder.specs.Modules.{is_defined, export_of, exports_of}
use Rattle.elf_binder.specs.Laws.{StaysInside, InnerSymbolsExportNothing}

pub no_exports : (base : ℕ) → exports_of base [] ≡ []
unfolding exports_of
no_exports base = refl

exports_append : (base : ℕ) (before more : List symbols.Symbol) → exports_of base (before ++ more) ≡ exports_of base before ++ exports_of base more
unfolding exports_of
exports_append base before more =
    ap (map (export_of base)) (filter-append is_defined before more) ∙ map-append (export_of base) (filter is_defined before) (filter is_defined more)

exports_one : (base : ℕ) (symbol : symbols.Symbol) → exports_of base (symbol ∷ []) ≡ map (export_of base) (cond (is_defined symbol) (symbol ∷ []) [])
unfolding exports_of
exports_one base symbol = refl

module _ (base : ℕ) (all : List Symbol) (k : ℕ) (symbol : Symbol) (within : k < length all) (here : symbol ≡ get_or all k symbol) where
  one_more : exports_of base (map symbol_of (take (k + 1) all)) ≡ exports_of base (map symbol_of (take k all)) ++ exports_of base (symbol_of symbol ∷ [])
  one_more =
      ap (λ (l : List Symbol). exports_of base (map symbol_of l)) (take_more all k symbol within)
      ∙ ap (exports_of base) (map-append symbol_of (take k all) (get_or all k symbol ∷ []))
      ∙ exports_append base (map symbol_of (take k all)) (symbol_of (get_or all k symbol) ∷ [])
      ∙ ap (λ (s : Symbol). exports_of base (map symbol_of (take k all)) ++ exports_of base (symbol_of s ∷ [])) (sym here)

  -- the next symbol defines its name
  pub next_exports : is_defined (symbol_of symbol) ≡ true
      → exports_of base (map symbol_of (take (k + 1) all)) ≡ exports_of base (map symbol_of (take k all)) ++ export_of base (symbol_of symbol) ∷ []
  next_exports defined =
      one_more
      ∙ ap (λ (l : List Export). exports_of base (map symbol_of (take k all)) ++ l)
      (exports_one base (symbol_of symbol) ∙ ap (λ (b : Bool). map (export_of base) (cond b (symbol_of symbol ∷ []) [])) defined)

  -- it doesn't
  pub next_passed : is_defined (symbol_of symbol) ≡ false → exports_of base (map symbol_of (take (k + 1) all)) ≡ exports_of base (map symbol_of (take k all))
  next_passed undefined =
      one_more
      ∙ ap (λ (l : List Export). exports_of base (map symbol_of (take k all)) ++ l)
      (exports_one base (symbol_of symbol) ∙ ap (λ (b : Bool). map (export_of base) (cond b (symbol_of symbol ∷ []) [])) undefined)
      ∙ append-nil (exports_of base (map symbol_of (take k all)))

-- ---- laws

none_left : (a : Bool) → (a && false) ≡ false
none_left true = refl
none_left false = refl

none_between : (a c d : Bool) → (a && false && c && d) ≡ false
none_between true c d = refl
none_between false c d = refl

pub inner_symbols : (s : symbols.Symbol) → StaysInside s → is_defined s ≡ false
unfolding is_defined
inner_symbols s (inl local) =
    ap (λ (n : ℕ). (n == 1 || n == 2) && not (s.section == 0) && (s.kind == 0 || s.kind == 1 || s.kind == 2) && (s.visibility == 0 || s.visibility == 3)) local
inner_symbols s (inr (inl internal)) =
    ap (λ (n : ℕ). (s.binding == 1 || s.binding == 2) && not (s.section == 0) && (s.kind == 0 || s.kind == 1 || s.kind == 2) && (n == 0 || n == 3)) internal
    ∙ none_left ((s.binding == 1 || s.binding == 2) && not (s.section == 0) && (s.kind == 0 || s.kind == 1 || s.kind == 2))
inner_symbols s (inr (inr (inl hidden))) =
    ap (λ (n : ℕ). (s.binding == 1 || s.binding == 2) && not (s.section == 0) && (s.kind == 0 || s.kind == 1 || s.kind == 2) && (n == 0 || n == 3)) hidden
    ∙ none_left ((s.binding == 1 || s.binding == 2) && not (s.section == 0) && (s.kind == 0 || s.kind == 1 || s.kind == 2))
inner_symbols s (inr (inr (inr without))) =
    ap (λ (n : ℕ). (s.binding == 1 || s.binding == 2) && not (n == 0) && (s.kind == 0 || s.kind == 1 || s.kind == 2) && (s.visibility == 0 || s.visibility == 3)) without
    ∙ none_between (s.binding == 1 || s.binding == 2) (s.kind == 0 || s.kind == 1 || s.kind == 2) (s.visibility == 0 || s.visibility == 3)

pub export_nothing : InnerSymbolsExportNothing
export_nothing base before after s inside =
    exports_append base before (s ∷ after)
    ∙ ap (λ (l : List Export). exports_of base before ++ l) (exports_append base (s ∷ []) after)
    ∙ ap (λ (l : List Export). exports_of base before ++ (l ++ exports_of base after))
    (exports_one base s ∙ ap (λ (b : Bool). map (export_of base) (cond b (s ∷ []) [])) (inner_symbols s inside))
    ∙ sym (exports_append base before after)
