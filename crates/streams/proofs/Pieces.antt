-- Bytes that are read and copied piece by piece. `a`, `b` and `c` are what a reader has left, and `d`, `e` and `f` what a writer holds, one after the other.
use Rattle.std.proofs.Common.{◌≡◌, ℕ, ◌+◌, ◌≤◌, ◌<◌, List, ◌++◌, length, take, drop, Option, None, Some, IfSome, sym, ap, subst, ◌∙◌, arith}
use Rattle.std.proofs.Math.Seq.{take-add, take-append-add, take-append-le}
use Rattle.std.proofs.lemmas.List.{take_at, drop_at, take_all, drop_all, take_min, drop_min, drop-drop, length-drop, length-append, length-take-le}
use borrow.Rule.Slice.PartMut.{put_mid, post_of}
use Rattle.std.specs.Io.KnownBytes.{Consumes, Appends}
use Rattle.std.proofs.KnownBytes.{Consumes-trans, Appends-trans}
use Rattle.streams.specs.Streams.{Filled, Passed}

-- n bytes more were read, and stand in the buffer from the place `got` on
pub read_more : (a b c : Option (List ℕ)) (buf part : List ℕ) (got k n : ℕ) → got ≤ length buf → n ≤ length part
    → Consumes a b (take got buf) → Consumes b c (take n part) → Consumes a c (take (got + n) (put_mid got k buf part))
read_more a b c buf part got k n within fits before more =
    subst (Consumes a c) (sym in_place) (Consumes-trans a b c (take got buf) (take n part) before more)
  where
    rest : List ℕ
    rest = part ++ post_of got k buf

    in_place : take (got + n) (take got buf ++ rest) ≡ take got buf ++ take n part
    in_place =
        ap (λ m. take (m + n) (take got buf ++ rest)) (sym (length-take-le got buf within)) ∙ take-append-add (take got buf) rest n
        ∙ ap (λ l. take got buf ++ l) (take-append-le n part (post_of got k buf) fits)

-- what was read fills the buffer
pub filled : (a b : Option (List ℕ)) (buf : List ℕ) (got : ℕ) → got ≡ length buf → Consumes a b (take got buf) → IfSome a (λ xs. Filled buf got xs b)
filled None b buf got full read = tt
filled (Some xs) None buf got full read = absurd read
filled (Some xs) (Some ys) buf got full read =
    let long : length (take got buf) ≡ got = length-take-le got buf (omega arith) in
    record {
      many = omega (arith, ap length read, length-append (take got buf) ys);
      bytes = sym (ap (take got) read ∙ take_at (take got buf) ys got long);
      rest = ap Some (sym (ap (drop got) read ∙ drop_at (take got buf) ys got long));
    }

-- as many of the first bytes as the buffer holds, or all
filled_front : {buf xs : List ℕ} {got : ℕ} {left : Option (List ℕ)} → Filled buf got xs left → take got buf ≡ take (length buf) xs
filled_front {buf} {xs} read = read.bytes ∙ ap (λ m. take m xs) read.many ∙ take_min (length buf) xs

filled_left : {buf xs : List ℕ} {got : ℕ} {left : Option (List ℕ)} → Filled buf got xs left → left ≡ Some (drop (length buf) xs)
filled_left {buf} {xs} read = read.rest ∙ ap (λ m. Some (drop m xs)) read.many ∙ ap Some (drop_min (length buf) xs)

-- what filled a buffer and was written is passed
pub filled_sent : (a b d e : Option (List ℕ)) (buf : List ℕ) (got : ℕ) → IfSome a (λ xs. Filled buf got xs b) → Appends d e (take got buf) → IfSome a (λ xs. Passed (length buf) got xs b d e)
filled_sent None b d e buf got read sent = tt
filled_sent (Some xs) b d e buf got read sent = record { many = read.many; rest = filled_left read; sent = subst (Appends d e) (filled_front read) sent }

-- n bytes, and then k more
pub pass_then : (a b c d e f : Option (List ℕ)) (n k m came more : ℕ) → m ≡ n + k → IfSome a (λ xs. Passed n came xs b d e) → IfSome b (λ ys. Passed k more ys c e f)
    → IfSome a (λ xs. Passed m (came + more) xs c d f)
pass_then None b c d e f n k m came more sum first second = tt
pass_then (Some xs) b c d e f n k m came more sum first second =
    let next : Passed k more (drop n xs) c e f = subst (λ (o : Option (List ℕ)). IfSome o (λ ys. Passed k more ys c e f)) first.rest second in
    rw sum (record {
      many = omega (arith, first.many, next.many, length-drop n xs);
      rest = next.rest ∙ ap Some (drop-drop k n xs);
      sent = subst (Appends d f) (sym (take-add n k xs)) (Appends-trans d e f (take n xs) (take k (drop n xs)) first.sent next.sent);
    })

-- no more came, so a longer copy is the same
pub pass_ended : (a b d e : Option (List ℕ)) (m n came : ℕ) → m ≤ n → came < m → IfSome a (λ xs. Passed m came xs b d e) → IfSome a (λ xs. Passed n came xs b d e)
pass_ended None b d e m n came more less p = tt
pass_ended (Some xs) b d e m n came more less p =
    let all : length xs ≤ m = omega arith in
    record {
      many = omega arith;
      rest = p.rest ∙ ap Some (drop_all m xs all ∙ sym (drop_all n xs (omega arith)));
      sent = subst (Appends d e) (take_all m xs all ∙ sym (take_all n xs (omega arith))) p.sent;
    }
