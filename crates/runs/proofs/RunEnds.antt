-- Each run ends.
use Rattle.std.proofs.Common.{◌≡◌, ℕ, zero, suc, ◌+◌, List, ◌++◌, arith, refl}
use Rattle.runs.specs.Machines.{Next, Goes, Stops, Machine}
use Rattle.runs.specs.Laws.{TakesFuel, EndOf, RunsEnd}
use Rattle.runs.proofs.Parts.{ran_one, ends_here, ends_after}

end_here : {S P L E : Type 0} (m : Machine S P L E) (state : S) (ending : E) → m.step state ≡ Stops ending → EndOf m state
end_here m state ending stops = record { last = state; output = _; log = _; ending = ending; ends = ends_here m state ending stops }

end_after : {S P L E : Type 0} (m : Machine S P L E) (old new : S) (output : List P) (log : List L)
    → m.step old ≡ Goes new output log → m.fuel old ≡ m.fuel new + 1 → EndOf m new → EndOf m old
end_after m old new output log goes fuel end = record {
  last = end.last;
  output = output ++ end.output;
  log = log ++ end.log;
  ending = end.ending;
  ends = ends_after m old new end.last output end.output log end.log end.ending (ran_one m old new output log goes fuel) end.ends;
}

end_by : {S P L E : Type 0} (m : Machine S P L E) → TakesFuel m → (n : ℕ) (state : S) (next : Next S P L E) → m.step state ≡ next
    → m.fuel state ≡ suc n → ((state' : S) → m.fuel state' ≡ n → EndOf m state') → EndOf m state
end_by m takes n state (Goes state' output log) goes fuel more =
    let taken : m.fuel state ≡ m.fuel state' + 1 = takes state state' output log goes in
    end_after m state state' output log goes taken (more state' (omega arith))
end_by m takes n state (Stops ending) stops fuel more = end_here m state ending stops

end_spent : {S P L E : Type 0} (m : Machine S P L E) → TakesFuel m → (state : S) (next : Next S P L E) → m.step state ≡ next
    → m.fuel state ≡ 0 → EndOf m state
end_spent m takes state (Goes state' output log) goes fuel =
    absurd (let taken : m.fuel state ≡ m.fuel state' + 1 = takes state state' output log goes in omega arith)
end_spent m takes state (Stops ending) stops fuel = end_here m state ending stops

end_at : {S P L E : Type 0} (m : Machine S P L E) → TakesFuel m → (n : ℕ) (state : S) → m.fuel state ≡ n → EndOf m state
end_at m takes zero state fuel = end_spent m takes state (m.step state) refl fuel
end_at m takes (suc n) state fuel = end_by m takes n state (m.step state) refl fuel (end_at m takes n)

pub runs_end : {S P L E : Type 0} (m : Machine S P L E) → TakesFuel m → RunsEnd m
runs_end m takes state = end_at m takes (m.fuel state) state refl
