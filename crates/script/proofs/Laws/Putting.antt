-- Laws of text that goes to a lent buffer: text after text, and what the buffer holds.
-- Assumes nothing.
use mathlib.Core.Path.{◌≡◌, refl, sym, ap, ap₂, subst, ◌∙◌}
use mathlib.Core.Bool.{Bool, true, false, cond}
use mathlib.Core.List.{List, [], ◌∷◌, ◌++◌, append_assoc, append-nil}
use Prim.Native.Nat.{ℕ, ◌+◌, ◌≤◌, ◌<◌, min}
use native.Mathlib.Numerals.{add-one}
use native.Mathlib.Decide.{ℕ_discrete}
use native.Mathlib.Omega.{arith}
use lib.Dec.{ltb}
use lib.ListN.{length, get_or, take, drop, set, length-set, length-append, length-drop, take-append-drop, drop_of_length-le}
use lib.Seq.{take_all, take-length, take-suc-set, drop-set-lt, take-append-le}
use borrow.Author.Tests.{lt-ltb, le-ltb}
use Rattle.table.proofs.Tables.{miss, hit}
use Rattle.table.specs.Sums.{nth}
use Rattle.plan.specs.declared.value.Plan.{Plan}
use Rattle.regulator.specs.declared.close.Counts.{Counts}
use Rattle.script.specs.Text.{decimal, field, domain_text, domains_text}
use Rattle.script.specs.Output.{Output, output, put_byte, put, shown, Puts, holding}
use Rattle.script.specs.declared.output.Text.{Text}

pub put_none : (o : Output) → put o [] ≡ o
unfolding put
put_none o = refl

pub put_one : (o : Output) (b : ℕ) → put o (b ∷ []) ≡ put_byte o b
unfolding put
put_one o b = refl

-- a text, and then another
pub put_put : (o : Output) (t u : List ℕ) → put (put o t) u ≡ put o (t ++ u)
unfolding put
put_put o [] u = refl
put_put o (b ∷ t) u = put_put (put_byte o b) t u

pub put_next : (o p : Output) (t u : List ℕ) → p ≡ put o t → put p u ≡ put o (t ++ u)
put_next o p t u e = ap (λ (x : Output). put x u) e ∙ put_put o t u

-- the same of the struct of the code: no text, one text and then another, and a text that is the same
pub puts_none : (t : Text) → Puts t t []
puts_none t = record { same = refl; more = sym (put_none (shown t)) }

pub puts_then : {t u v : Text} {a b : List ℕ} → Puts t u a → Puts u v b → Puts t v (a ++ b)
puts_then {t} {u} {v} {a} {b} p q = record { same = q.same ∙ p.same; more = q.more ∙ put_next (shown t) (shown u) a b p.more }

pub puts_as : {t u : Text} {a b : List ℕ} → a ≡ b → Puts t u a → Puts t u b
puts_as {t} {u} e p = subst (Puts t u) e p

-- a number that was widened
pub puts_number : {t u : Text} {k n : ℕ} → k ≡ n → Puts t u (decimal k) → Puts t u (decimal n)
puts_number e p = puts_as (ap decimal e) p

pub puts_field : {t u : Text} {mark k n : ℕ} → k ≡ n → Puts t u (field mark k) → Puts t u (field mark n)
puts_field {mark = mark} e p = puts_as (ap (field mark) e) p

-- a byte, where the buffer has its place, and where it has not
pub byte_fits : (b : List ℕ) (c x : ℕ) → c < length b → put_byte (output b c) x ≡ output (set b c x) (c + 1)
unfolding put_byte
byte_fits b c x h = hit _ _ _ (lt-ltb c (length b) h)

pub byte_lost : (b : List ℕ) (c x : ℕ) → length b ≤ c → put_byte (output b c) x ≡ output b c
unfolding put_byte
byte_lost b c x h = miss _ _ _ (le-ltb c (length b) h)

-- what a buffer holds in which c bytes were text, and the text t came after them
abbrev held : List ℕ → ℕ → List ℕ → List ℕ
held b c t = take (length b) (take c b ++ (t ++ drop (c + length t) b))

-- one byte of it put
held_set : (b : List ℕ) (c x : ℕ) (t : List ℕ) → c < length b → held (set b c x) (c + 1) t ≡ held b c (x ∷ t)
held_set b c x t h =
    let n : c + 1 + length t ≡ c + length (x ∷ t) = omega arith in
    let front : take (c + 1) (set b c x) ≡ take c b ++ (x ∷ []) = ap (λ (k : ℕ). take k (set b c x)) (add-one c) ∙ take-suc-set b c x h in
    let back : drop (c + 1 + length t) (set b c x) ≡ drop (c + length (x ∷ t)) b =
    drop-set-lt (c + 1 + length t) b c x (omega arith) ∙ ap (λ (k : ℕ). drop k b) n in
    ap₂ (λ (k : ℕ) (l : List ℕ). take k l) (length-set b c x)
    (ap₂ (λ (l m : List ℕ). l ++ (t ++ m)) front back ∙ append_assoc (take c b) (x ∷ []) (t ++ drop (c + length (x ∷ t)) b))

-- a full buffer stays as it is
held_full : (b : List ℕ) (c : ℕ) (t : List ℕ) → length b ≤ c → held b c t ≡ b
held_full b c t h =
    ap (λ (l : List ℕ). take (length b) (l ++ (t ++ drop (c + length t) b))) (take_all c b h)
    ∙ take-append-le (length b) b (t ++ drop (c + length t) b) (omega arith)
    ∙ take-length b

pub put_held : (t b : List ℕ) (c : ℕ) → c ≤ length b → put (output b c) t ≡ output (held b c t) (min (c + length t) (length b))
unfolding put
put_held [] b c h =
    let n : c ≡ min (c + 0) (length b) = omega arith in
    let z : c ≡ c + 0 = omega arith in
    let e : b ≡ held b c [] = sym (take-length b) ∙ ap (take (length b)) (sym (take-append-drop c b) ∙ ap (λ (k : ℕ). take c b ++ drop k b) z) in
    ap₂ output e n
put_held (x ∷ t) b c h = go (ℕ_discrete c (length b)) (put_held t)
  where
    go : Dec (c ≡ length b)
        → ((d : List ℕ) (k : ℕ) → k ≤ length d → put (output d k) t ≡ output (held d k t) (min (k + length t) (length d)))
        → put (put_byte (output b c) x) t ≡ output (held b c (x ∷ t)) (min (c + length (x ∷ t)) (length b))
    go (yes q) ih =
        let full : length b ≤ c = omega arith in
        let n : min (c + length t) (length b) ≡ min (c + length (x ∷ t)) (length b) = omega arith in
        ap (λ (o : Output). put o t) (byte_lost b c x full)
        ∙ ih b c h
        ∙ ap₂ output (held_full b c t full ∙ sym (held_full b c (x ∷ t) full)) n
    go (no q) ih =
        let fits : c < length b = omega arith in
        let n : min (c + 1 + length t) (length (set b c x)) ≡ min (c + length (x ∷ t)) (length b) = omega (arith, length-set b c x) in
        ap (λ (o : Output). put o t) (byte_fits b c x fits)
        ∙ ih (set b c x) (c + 1) (omega (arith, length-set b c x))
        ∙ ap₂ output (held_set b c x t fits) n

-- a text at the start of a buffer
pub put_holding : (t b : List ℕ) → put (output b 0) t ≡ output (holding t b) (min (length t) (length b))
put_holding t b =
    let z : 0 + length t ≡ length t = omega arith in
    put_held t b 0 (omega arith)
    ∙ ap (λ (k : ℕ). output (take (length b) (t ++ drop k b)) (min k (length b))) z
    ∙ ap (λ (l : List ℕ). output l (min (length t) (length b))) (go (ℕ_discrete (min (length t) (length b)) (length t)))
  where
    go : Dec (min (length t) (length b) ≡ length t) → take (length b) (t ++ drop (length t) b) ≡ holding t b
    go (yes q) =
        let h : length t ≤ length b = omega arith in
        let l : length (t ++ drop (length t) b) ≤ length b = omega (arith, length-append t (drop (length t) b), length-drop (length t) b) in
        take_all (length b) (t ++ drop (length t) b) l ∙ ap (λ (m : List ℕ). m ++ drop (length t) b) (sym (take_all (length b) t h))
    go (no q) =
        let h : length b ≤ length t = omega arith in
        let none : drop (length t) b ≡ [] = drop_of_length-le b h in
        take-append-le (length b) t (drop (length t) b) h
        ∙ sym (append-nil (take (length b) t))
        ∙ ap (λ (m : List ℕ). take (length b) t ++ m) (sym none)

-- how many bytes are text, and how long the buffer is
pub put_count : (t b : List ℕ) (c : ℕ) → c ≤ length b → (put (output b c) t).count ≡ min (c + length t) (length b)
put_count t b c h = ap (λ (o : Output). o.count) (put_held t b c h)

pub byte_length : (o : Output) (x : ℕ) → length (put_byte o x).buffer ≡ length o.buffer
unfolding put_byte
byte_length o x = go (ltb o.count (length o.buffer))
  where
    go : (f : Bool) → length (cond f (output (set o.buffer o.count x) (o.count + 1)) o).buffer ≡ length o.buffer
    go true = length-set o.buffer o.count x
    go false = refl

pub put_length : (o : Output) (t : List ℕ) → length (put o t).buffer ≡ length o.buffer
unfolding put
put_length o [] = refl
put_length o (x ∷ t) = put_length (put_byte o x) t ∙ byte_length o x

-- one domain more
pub domains_more : (p : Plan) (c : Counts) (j : ℕ)
    → domains_text p c (j + 1)
    ≡ domains_text p c j
    ++ cond (get_or p.planned j false)
    (domain_text (j + 1) (nth c.reserved j) (nth c.reclaimed j) (nth c.yielded j) (nth c.writebacks j)) []
unfolding domains_text
domains_more p c j = ap (domains_text p c) (add-one j)

-- a planned domain, whose counts are put, and one that is not planned
module _ (p : Plan) (c : Counts) (j : ℕ) where
  abbrev counts_text : List ℕ
  counts_text = domain_text (j + 1) (nth c.reserved j) (nth c.reclaimed j) (nth c.yielded j) (nth c.writebacks j)

  pub domain_put : {t u v : Text} → get_or p.planned j false ≡ true → Puts t u (domains_text p c j) → Puts u v counts_text → Puts t v (domains_text p c (j + 1))
  domain_put h a b =
      puts_as (ap (λ (t : List ℕ). domains_text p c j ++ t) (sym (hit (get_or p.planned j false) counts_text [] h)) ∙ sym (domains_more p c j)) (puts_then a b)

  pub domain_left : {t u : Text} → get_or p.planned j false ≡ false → Puts t u (domains_text p c j) → Puts t u (domains_text p c (j + 1))
  domain_left h a =
      puts_as (sym (append-nil (domains_text p c j))
      ∙ ap (λ (t : List ℕ). domains_text p c j ++ t) (sym (miss (get_or p.planned j false) counts_text [] h))
      ∙ sym (domains_more p c j)) a

pub domains_none : (p : Plan) (c : Counts) → domains_text p c 0 ≡ []
unfolding domains_text
domains_none p c = refl
