-- What rows of MemberRef find, as a list for all rows.
use Rattle.std.proofs.Common.{◌≡◌, ℕ, ◌+◌, ◌-◌, true, List, [], ◌∷◌, ◌++◌, map, get_or, Option, None, ap, ◌∙◌, arith}
use Rattle.std.specs.List.{range_with_len}
use Rattle.std.proofs.lemmas.List.FromFn.{map-range_with_len_more, get_or-map-range_with_len}
use Rattle.type_model.specs.Module.{Module, row_count}
use Rattle.type_model.specs.Rows.{member_refs}
use Rattle.type_model.specs.TypeIds.{is_row}
use Rattle.type_model.proofs.RowNames.{row_above, row_within}
use Rattle.type_members.specs.declared.member.Member.{Member}
use Rattle.type_members.specs.Found.{ref_found}
use Rattle.type_members.specs.Holding.{found_refs}

pub one_more : {A : Type 0} (f : ℕ → A) (n : ℕ) → map f (range_with_len 1 (n + 1)) ≡ map f (range_with_len 1 n) ++ f (n + 1) ∷ []
one_more f n = map-range_with_len_more f 1 n (n + 1) (omega arith)

pub ref_listed : (m : Module) (refs : List (Option Member)) (row : ℕ) → refs ≡ found_refs m → is_row m member_refs row ≡ true
    → get_or refs (row - 1) None ≡ ref_found m row
ref_listed m refs row are there =
    let above = row_above m member_refs row there in
    let within = row_within m member_refs row there in
    ap (λ (l : List (Option Member)). get_or l (row - 1) None) are
    ∙ get_or-map-range_with_len (ref_found m) 1 (row_count m member_refs) (row - 1) row None (omega arith) (omega arith)
