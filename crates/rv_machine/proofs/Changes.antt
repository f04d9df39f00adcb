-- What a step changes.
use Rattle.std.proofs.Common.{◌≡◌, ◌≢◌, ℕ, ◌%◌, ◌<◌, Bool, true, false, cond, Option, Some, None, refl, sym, ap, ◌∙◌, inl, inr, ◌⊎◌, ⊎_elim, subst, ◌≤◌}
use Rattle.std.proofs.lemmas.Bool.{cases_lt, lt-ltb, le-ltb}
use Rattle.std.proofs.lemmas.Bool.Decides.{eqb_tells}
use Rattle.std.specs.Int.{byte_len}
use Rattle.std.specs.Prelude.{option_map}
use Rattle.byteorder.specs.Endian.{little_bytes}
use Rattle.native_memory.specs.AddressSpace.{AddressSpace, lowest}
use Rattle.native_memory.specs.Ranges.{word_at, written_at}
use Rattle.rv_decode.specs.declared.instr.Instr.{Instr}
use Rattle.rv_decode.specs.Decoding.{decoded}
use Rattle.rv_machine.specs.declared.effect.Effect.{Effect}
use Rattle.rv_machine.specs.declared.effect.Effect.TheVariants.{Set, Jump, Branch, Load, Store, Nothing, Trap}
use Rattle.rv_machine.specs.declared.effect.Width.{Width}
use Rattle.rv_machine.specs.declared.outcome.Step.{Step}
use Rattle.rv_machine.specs.declared.outcome.Step.TheVariants.{Went, At, Fault}
use Rattle.rv_machine.specs.Registers.{register, with_register}
use Rattle.rv_machine.specs.Instructions.{effect}
use Rattle.rv_machine.specs.Machine.{State, next_pc, jumped, loaded, stored, applied, performed, fetched, no_instruction, size_of, number_at, extended_from, rv_step}
use Rattle.rv_machine.specs.Laws.{ChangesLittle, Executes, Writes, StepsChangeLittle, StepsKeepBlocks, FaultsChangeNothing, StopsBelowLowest}
use Rattle.native_memory.specs.Sound.{IsSound}
use Rattle.native_memory.specs.Changes.{OnlyBytesChange, OnlyHeapChanges}
use Rattle.native_memory.proofs.HeapChanges.{bytes_written, heap_unchanged, heap_written}
use Rattle.rv_decode.specs.Lengths.{length_of}

-- a step that stops below the lowest address doesn't go, and names its pc
went_low : (s : State) → rv_step s ≡ (At s.pc, s) → (rv_step s).0 ≢ Went
went_low s e f = let g : At s.pc ≡ Went = sym (ap (λ (r : Step × State). r.0) e) ∙ f in cc

place_low : (s : State) (place : ℕ) → rv_step s ≡ (At s.pc, s) → (rv_step s).0 ≡ At place → place ≡ s.pc
place_low s place e f = let g : At s.pc ≡ At place = sym (ap (λ (r : Step × State). r.0) e) ∙ f in cc

-- an answer of a step from a state: it went and changed little, or it is a fault and changed nothing
data Answers (s : State) (len : ℕ) : Step × State → Type 0 where
  WentTo : (new : State) → ChangesLittle len s new → Answers s len (Went, new)
  Stopped : (step : Step) → step ≢ Went → ((place : ℕ) → step ≢ At place) → Answers s len (step, s)

-- one for each effect of an instruction of `len` bytes, and for what may be missing before it
faulted : (s : State) (len addr : ℕ) → Answers s len (no_instruction addr, s)
faulted s len addr = Stopped (no_instruction addr) (λ e. cc) (λ place e. cc)

moved : (s : State) (len pc : ℕ) → (pc ≡ next_pc s.pc len) ⊎ (pc % 4 ≡ 0) → ChangesLittle len s (record s { pc = pc })
moved s len pc h = record { number = 0; value = 0; registers = refl; memory = inl refl; pc = h }

registered : (s : State) (len pc d value : ℕ) → (pc ≡ next_pc s.pc len) ⊎ (pc % 4 ≡ 0) → ChangesLittle len s (record s { pc = pc; x = with_register s.x d value })
registered s len pc d value h = record { number = d; value = value; registers = refl; memory = inl refl; pc = h }

-- a jump that writes a register, or x0
jumped_answers : (s : State) (len d value target : ℕ) → Answers s len (jumped s (with_register s.x d value) target)
jumped_answers s len d value target =
    let P : Bool → Type 0 = λ b. Answers s len (cond b (Went, record s { pc = target; x = with_register s.x d value }) (no_instruction target, s)) in
    ⊎_elim
    (λ e. subst P (sym e.0) (WentTo _ (registered s len target d value (inr e.1))))
    (λ e. subst P (sym e.0) (faulted s len target))
    (eqb_tells (target % 4) 0)

loaded_answers : (s : State) (len d addr size : ℕ) (o : Option ℕ) → Answers s len (loaded s len d addr size o)
loaded_answers s len d addr size (Some value) = WentTo _ (registered s len (next_pc s.pc len) d value (inl refl))
loaded_answers s len d addr size None = Stopped _ (λ e. cc) (λ place e. cc)

stored_answers : (s : State) (len addr value : ℕ) (width : Width) (o : Option AddressSpace) → written_at s.memory addr (little_bytes (byte_len (size_of width)) value) ≡ o → Answers s len (stored s len addr (byte_len (size_of width)) o)
stored_answers s len addr value width (Some memory) e = WentTo _ (record {
  number = 0;
  value = 0;
  registers = refl;
  memory = inr (record { addr = addr; width = width; value = value; written = e });
  pc = inl refl;
})
stored_answers s len addr value width None e = Stopped _ (λ f. cc) (λ place f. cc)

applied_answers : (s : State) (len : ℕ) (e : Effect) → Answers s len (applied s len e)
applied_answers s len (Set d value) = WentTo _ (registered s len (next_pc s.pc len) d value (inl refl))
applied_answers s len (Jump d target) = jumped_answers s len d (next_pc s.pc len) target
applied_answers s len (Branch true target) = jumped_answers s len 0 0 target
applied_answers s len (Branch false target) = WentTo _ (moved s len (next_pc s.pc len) (inl refl))
applied_answers s len (Load d addr width signed) =
    let size : ℕ = byte_len (size_of width) in
    loaded_answers s len d addr size (option_map (extended_from width signed) (number_at s.memory addr size))
applied_answers s len (Store addr width value) = stored_answers s len addr value width _ refl
applied_answers s len Nothing = WentTo _ (moved s len (next_pc s.pc len) (inl refl))
applied_answers s len Trap = faulted s len s.pc

performed_answers : (s : State) (len : ℕ) (o : Option Instr) → Answers s len (performed s len o)
performed_answers s len (Some i) = applied_answers s len (effect i s.pc (register s.x))
performed_answers s len None = faulted s len s.pc

-- what is told of an answer by the word at pc
record Told (s : State) (r : Step × State) : Type 0 where
  little : r.0 ≡ Went → Executes s r.1
  kept : r.0 ≢ Went → r.1 ≡ s
  elsewhere : (place : ℕ) → r.0 ≢ At place

-- what such an answer tells
little : (s : State) (len : ℕ) (r : Step × State) → Answers s len r → r.0 ≡ Went → ChangesLittle len s r.1
little s len r (WentTo new changes) e = changes
little s len r (Stopped step stops other) e = absurd (stops e)

kept : (s : State) (len : ℕ) (r : Step × State) → Answers s len r → r.0 ≢ Went → r.1 ≡ s
kept s len r (WentTo new changes) h = absurd (h refl)
kept s len r (Stopped step stops other) h = refl

elsewhere : (s : State) (len : ℕ) (r : Step × State) (place : ℕ) → Answers s len r → r.0 ≢ At place
elsewhere s len r place (WentTo new changes) e = cc
elsewhere s len r place (Stopped step stops other) e = other place e

fetched_told : (s : State) (o : Option ℕ) → word_at s.memory s.pc ≡ o → Told s (fetched s o)
fetched_told s (Some w) is =
    let answers : Answers s (length_of w) (performed s (length_of w) (decoded w)) = performed_answers s (length_of w) (decoded w) in
    record {
      little = λ went. record { word = w; fetched = is; changes = little s (length_of w) _ answers went };
      kept = λ stopped. kept s (length_of w) _ answers stopped;
      elsewhere = λ place. elsewhere s (length_of w) _ place answers;
    }
fetched_told s None is = record { little = λ went. cc; kept = λ stopped. refl; elsewhere = λ place e. cc }

-- a step from below the lowest address, and one from elsewhere
low : (s : State) → s.pc < lowest → rv_step s ≡ (At s.pc, s)
unfolding rv_step
low s h = ap (λ b. cond b (At s.pc, s) (fetched s (word_at s.memory s.pc))) (lt-ltb s.pc lowest h)

high : (s : State) → lowest ≤ s.pc → Told s (rv_step s)
unfolding rv_step
high s h =
    let P : Bool → Type 0 = λ b. Told s (cond b (At s.pc, s) (fetched s (word_at s.memory s.pc))) in
    subst P (sym (le-ltb s.pc lowest h)) (fetched_told s (word_at s.memory s.pc) refl)

pub steps_change_little : StepsChangeLittle
steps_change_little s e = ⊎_elim
    (λ h. absurd (went_low s (low s h) e))
    (λ h. (high s h).little e)
    (cases_lt s.pc lowest)

pub faults_change_nothing : FaultsChangeNothing
faults_change_nothing s n = ⊎_elim
    (λ h. ap (λ (r : Step × State). r.1) (low s h))
    (λ h. (high s h).kept n)
    (cases_lt s.pc lowest)

pub steps_stop_below_lowest : StopsBelowLowest
steps_stop_below_lowest s = record {
  there = λ h. ap (λ (r : Step × State). r.0) (low s h);
  only = λ place e. ⊎_elim
      (λ h. (place_low s place (low s h) e, h))
      (λ h. absurd ((high s h).elsewhere place e))
      (cases_lt s.pc lowest);
}

-- of memory a step that went changes bytes alone; one that stopped, nothing
bytes_alone : (old new : State) → (new.memory ≡ old.memory) ⊎ Writes old.memory new.memory → OnlyBytesChange old.memory new.memory
bytes_alone old new change = ⊎_elim
    (λ same. rw same (record { blocks = refl; limit = refl; next = refl; edge = refl }))
    (λ writes. bytes_written old.memory new.memory writes.addr (little_bytes (byte_len (size_of writes.width)) writes.value) writes.written)
    change

heap_alone : (old new : State) → IsSound old.memory → (new.memory ≡ old.memory) ⊎ Writes old.memory new.memory → OnlyHeapChanges old.memory new.memory
heap_alone old new sound change = ⊎_elim
    (λ same. rw same (heap_unchanged old.memory sound))
    (λ writes. heap_written old.memory new.memory writes.addr (little_bytes (byte_len (size_of writes.width)) writes.value) sound writes.written)
    change

-- what a step comes to is that it went, or another
went_or_not : (step : Step) → (step ≡ Went) ⊎ (step ≢ Went)
went_or_not Went = inl refl
went_or_not (At place) = inr (λ e. cc)
went_or_not (Fault fault) = inr (λ e. cc)

memory_change : (s : State) → ((rv_step s).1.memory ≡ s.memory) ⊎ Writes s.memory (rv_step s).1.memory
memory_change s = ⊎_elim
    (λ went. (steps_change_little s went).changes.memory)
    (λ stopped. inl (ap (λ (t : State). t.memory) (faults_change_nothing s stopped)))
    (went_or_not (rv_step s).0)

pub steps_keep_blocks : StepsKeepBlocks
steps_keep_blocks s = bytes_alone s (rv_step s).1 (memory_change s)

-- so native code may do to memory what a step does
pub step_changes : (s : State) → IsSound s.memory → OnlyHeapChanges s.memory (rv_step s).1.memory
step_changes s sound = heap_alone s (rv_step s).1 sound (memory_change s)
