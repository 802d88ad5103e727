-- Texts laid one after the other. Assumes nothing.
use Rattle.std.proofs.Common.{◌≡◌, ℕ, ◌+◌, ◌≤◌, ◌<◌, List, [], ◌∷◌, ◌++◌, length, take, set, get_or, refl, subst, ap, sym, ◌∙◌, append_assoc, arith, length-append}
use Rattle.std.proofs.lemmas.List.{set_at, take_more}
use Rattle.model.specs.Memory.{over}
use Rattle.text.specs.declared.writing.Pen.{Pen}
use Rattle.text.specs.Laying.{laid, Lays}

laid-append : (memory : List ℕ) (at : ℕ) (xs ys : List ℕ) → laid memory at (xs ++ ys) ≡ laid (laid memory at xs) (at + length xs) ys
laid-append memory at [] ys = ap (λ k. laid memory k ys) (omega arith)
laid-append memory at (x ∷ xs) ys =
    laid-append (set memory at x) (at + 1) xs ys ∙ ap (λ k. laid (laid (set memory at x) (at + 1) xs) k ys) (omega arith)

-- One text after another.
pub lays_then : {p q r : Pen} {xs ys : List ℕ} → Lays p xs q → Lays q ys r → Lays p (xs ++ ys) r
lays_then {p} {q} {r} {xs} {ys} h k = record {
  same_memory = k.same_memory ∙ h.same_memory;
  memory =
      k.memory ∙ ap (λ at. laid q.memory.now at ys) h.length ∙ ap (λ m. laid m (p.length + length xs) ys) h.memory
      ∙ sym (laid-append p.memory.now p.length xs ys);
  length = omega (arith, h.length, k.length, length-append xs ys);
}

-- One more byte.
pub lays_byte : {p q r : Pen} (bytes : List ℕ) (i : ℕ) → i < length bytes → Lays p (take i bytes) q → Lays q (get_or bytes i 0 ∷ []) r → Lays p (take (i + 1) bytes) r
lays_byte {p} {q} {r} bytes i h done more = subst (λ xs. Lays p xs r) (sym (take_more bytes i 0 h)) (lays_then done more)

laid-over : (xs before memory : List ℕ) (at : ℕ) → length before ≡ at → length xs ≤ length memory → laid (before ++ memory) at xs ≡ before ++ over xs memory
laid-over [] before memory at e h = refl
laid-over (x ∷ xs) before [] at e h = absurd (omega arith)
laid-over (x ∷ xs) before (y ∷ memory) at e h =
    ap (λ l. laid l (at + 1) xs) (set_at before y memory x at e ∙ sym (append_assoc before (x ∷ []) memory))
    ∙ laid-over xs (before ++ (x ∷ [])) memory (at + 1) (omega (arith, length-append before (x ∷ []))) (omega arith)
    ∙ append_assoc before (x ∷ []) (over xs memory)

-- A text laid into memory that has room for it.
pub laid_all : (text memory : List ℕ) → length text ≤ length memory → laid memory 0 text ≡ over text memory
laid_all text memory h = laid-over text [] memory 0 refl h
