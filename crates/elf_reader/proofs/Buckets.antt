-- The greatest of the buckets, one after another.
use Rattle.std.proofs.Common.{◌≡◌, ℕ, ◌+◌, ◌*◌, Bool, true, false, List, [], ◌∷◌, ◌++◌, Option, Some, None, Ok, refl, ap, ◌∙◌, nat_cmp, add-zero, arith}
use Rattle.std.specs.Prelude.{max, nat_le, ◌||◌, if◌then◌else◌}
use Rattle.std.specs.List.{fold, list_any}
use Rattle.std.proofs.Math.Bool.{or-false}
use Rattle.std.specs.Ordering.{ord_max}
use Rattle.std.proofs.lemmas.Bool.Decides.{nat_tests}
use Rattle.std.proofs.lemmas.List.FromFn.{map-range_with_len_more}
use Rattle.std.proofs.lemmas.List.Sums.{fold_push}
use Rattle.std.proofs.lemmas.List.Folds.{list_any-append}
use Rattle.byte_view.specs.Numbers.{le}
use Rattle.byte_view.specs.ElfLoads.{Load}
use Rattle.byte_view.specs.ElfDynamic.{Entry}
use Rattle.byte_view.specs.ElfSymbols.{words_at, table_place, gnu_hash_count, behind_buckets, behind_chain}
use Rattle.byte_view.specs.ElfParts as parts

module _ (bytes : List ℕ) (at : ℕ) where
  words_more : (k : ℕ) → words_at bytes at (k + 1) ≡ words_at bytes at k ++ le bytes (at + 4 * k) 4 ∷ []
  words_more k = map-range_with_len_more (λ k. le bytes (at + 4 * k) 4) 0 k k (omega arith)

  pub greatest_more : (k : ℕ) → fold max 0 (words_at bytes at (k + 1)) ≡ max (fold max 0 (words_at bytes at k)) (le bytes (at + 4 * k) 4)
  greatest_more k = rw (words_more k) (fold_push max 0 (words_at bytes at k) (le bytes (at + 4 * k) 4))

  pub any_more : (p : ℕ → Bool) (k : ℕ) → list_any p (words_at bytes at (k + 1)) ≡ (list_any p (words_at bytes at k) || p (le bytes (at + 4 * k) 4))
  any_more p k = rw (words_more k) (list_any-append p (words_at bytes at k) (le bytes (at + 4 * k) 4 ∷ []) ∙ ap (λ b. list_any p (words_at bytes at k) || b) (or-false (p (le bytes (at + 4 * k) 4))))

-- what an answer says of the buckets
pub some_hashed : (any : Bool) (greatest symbol : ℕ) → ◌≡◌ {A = Option ℕ} (Some symbol) (if any then Some greatest else None) → (any ≡ true) × (symbol ≡ greatest)
some_hashed true greatest symbol e = (refl, cc)
some_hashed false greatest symbol e = absurd (cc)

pub none_hashed : (any : Bool) (greatest : ℕ) → ◌≡◌ {A = Option ℕ} None (if any then Some greatest else None) → any ≡ false
none_hashed true greatest e = absurd (cc)
none_hashed false greatest e = refl

pub max_is : (a b : ℕ) → ord_max nat_cmp a b ≡ max a b
max_is a b = grind (arith, nat_tests)

module _ (bytes : List ℕ) (loads : List Load) (entry : Entry) where
  pub gnu_counted : (at count first filters buckets_at : ℕ) → count ≡ le bytes at 4 → first ≡ le bytes (at + 4) 4 → filters ≡ le bytes (at + 8) 4
      → table_place parts.symbols loads entry (entry.value + 0) 12 ≡ Ok at
      → table_place parts.symbols loads entry (entry.value + (16 + 8 * filters)) (4 * count) ≡ Ok buckets_at
      → gnu_hash_count bytes loads entry ≡ behind_buckets bytes loads entry (entry.value + (16 + 8 * filters + 4 * count)) first (words_at bytes buckets_at count)
  unfolding gnu_hash_count
  gnu_counted at count first filters buckets_at ec ef ew head buckets =
      let here : table_place parts.symbols loads entry entry.value 12 ≡ Ok at = rw (add-zero entry.value) at head in
      let place : entry.value + (16 + 8 * filters) ≡ entry.value + 16 + 8 * filters = omega arith in
      let chains : entry.value + 16 + 8 * filters + 4 * count ≡ entry.value + (16 + 8 * filters + 4 * count) = omega arith in
      let table : table_place parts.symbols loads entry (entry.value + 16 + 8 * filters) (4 * count) ≡ Ok buckets_at = rw place at buckets in
      rw (here, ← ec, ← ef, ← ew, table, chains) refl

  pub by_chain : (chains first : ℕ) (starts : List ℕ) (symbol : ℕ) → list_any (λ start. nat_le first start) starts ≡ true → symbol ≡ fold max 0 starts → behind_buckets bytes loads entry chains first starts ≡ behind_chain bytes loads entry chains first symbol
  unfolding behind_buckets
  by_chain chains first starts symbol any same = rw (any, same) refl

  pub without_chain : (chains first : ℕ) (starts : List ℕ) → list_any (λ start. nat_le first start) starts ≡ false → behind_buckets bytes loads entry chains first starts ≡ Ok first
  unfolding behind_buckets
  without_chain chains first starts none = rw none refl
