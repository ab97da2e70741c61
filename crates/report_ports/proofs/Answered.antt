-- What a source answers, by the bytes that it has left.
use Rattle.std.proofs.Common.{◌≡◌, ℕ, zero, suc, ◌<◌, ◌≤◌, min, Bool, true, false, nat_eq, List, ◌++◌, length, take, Option, Some, None, refl, sym, ap, ◌∙◌, arith}
use Rattle.std.specs.Prelude.{if◌then◌else◌}
use Rattle.std.proofs.lemmas.Bool.{ne_eqb}
use Rattle.std.specs.Io.KnownBytes.{Consumes, Keeps, IsAtEnd}
use Rattle.report_ports.specs.declared.source.Taken.TheVariants.{Got, End, Failed as TakeFailed}
use Rattle.report_ports.specs.Memory.{SourceData, is_failing, source_answer}

-- ---- a source in memory
pub fails : (s : SourceData) (room : ℕ) → is_failing s.failing s.calls ≡ true → TakeFailed ≡ source_answer s room
fails s room failing =
    let got = Got (min (min (length s.left) room) s.step) in
    sym (ap (λ (b : Bool). if b then TakeFailed else if nat_eq (length s.left) 0 then End else got) failing)

pub ends : (s : SourceData) (room : ℕ) → is_failing s.failing s.calls ≡ false → length s.left ≡ 0 → End ≡ source_answer s room
ends s room goes none =
    let got = Got (min (min (length s.left) room) s.step) in
    sym (ap (λ (b : Bool). if b then TakeFailed else if nat_eq (length s.left) 0 then End else got) goes
    ∙ ap (λ (k : ℕ). if nat_eq k 0 then End else got) none)

pub gives : (s : SourceData) (room n : ℕ) → is_failing s.failing s.calls ≡ false → 0 < length s.left →
    n ≡ min (min (length s.left) room) s.step → Got n ≡ source_answer s room
gives s room n goes some is =
    let got = Got (min (min (length s.left) room) s.step) in
    ap Got is
    ∙ sym (ap (λ (b : Bool). if b then TakeFailed else if nat_eq (length s.left) 0 then End else got) goes
    ∙ ap (λ (b : Bool). if b then End else got) (not_none (length s.left) some))
  where
    not_none : (k : ℕ) → 0 < k → nat_eq k 0 ≡ false
    not_none k lt = ne_eqb k 0 (λ (e : k ≡ 0). absurd (omega arith))

-- ---- a source over a reader
pub at_least_one : (n : ℕ) → (n ≡ 0 → ⊥) → 1 ≤ n
at_least_one zero some = absurd (some refl)
at_least_one (suc n) some = omega arith

-- a read of no bytes is the end
pub ended : (before after : Option (List ℕ)) (n : ℕ) (room : List ℕ) → n ≡ 0 → Consumes before after (take n room) →
    IsAtEnd after → IsAtEnd before × Keeps before after
ended None after n room none takes last = (tt, tt)
ended (Some xs) None n room none takes last = absurd takes
ended (Some xs) (Some ys) n room none takes last =
    let same : xs ≡ ys = takes ∙ ap (λ (k : ℕ). take k room ++ ys) none in (same ∙ last, sym same)
