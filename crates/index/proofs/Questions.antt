-- Questions of the live slots look at a slot's number only to answer it: renumbered slots give the answer renumbered. The theorem on histories stands on this.
use mathlib.Core.Path.{◌≡◌, refl, ap, sym, ◌∙◌}
use mathlib.Core.Bool.{Bool, true, false, cond, ◌||◌}
use mathlib.Core.List.{List, [], ◌∷◌, map, map-map}
use mathlib.Core.Option
use mathlib.Core.Option.{Option, none, some}
use Prim.Native.Nat.{ℕ, zero, suc}
use lib.ListN.{length, length-map}
use lib.Dec.{ltb, eqb}
use lib.Ieee.{Float, is_nan}
use Rattle.lists.specs.Keep.{Each, any}
use Rattle.lists.proofs.Keep.{count_map}
use Rattle.lists.proofs.Front.{each_map}
use Rattle.choose.specs.Choose.{choose}
use Rattle.choose.proofs.Choice.{choose-map, choose-each}
use Rattle.encode.specs.declared.Header.{Header}
use Rattle.index.specs.State.{Mark, State}
use Rattle.index.specs.File.{file_of}
use Rattle.index.specs.Step.{Op, search, search_keyed, contains, slot_of, file_length, write, Query, Answer, refused, done, flag, slot, maybe_slot, maybe_key, score_is, hits, key_hits, size, bytes, first_of, when, unless, Cell, live_from, holds_at, cell_holds, held_by, is_held, number_where, slot_holding, Hit, rank, query_refusal, short_result, by_slot, by_key, hits_of, hit_of, searched, entry_of, file_bytes, answered, step}

-- ---- renumbering

abbrev pub rename : (ℕ → ℕ) → Cell → Cell
rename f c = record { number = f c.number; slot = c.slot }

abbrev pub renamed_answer : (ℕ → ℕ) → Answer → Answer
renamed_answer f (refused n) = refused n
renamed_answer f done = done
renamed_answer f (flag b) = flag b
renamed_answer f (slot i) = slot (f i)
renamed_answer f (maybe_slot o) = maybe_slot (Option.map f o)
renamed_answer f (maybe_key o) = maybe_key o
renamed_answer f (score_is x) = score_is x
renamed_answer f (hits xs) = hits (map (λ x. (f x.0, x.1)) xs)
renamed_answer f (key_hits xs) = key_hits xs
renamed_answer f (size n) = size n
renamed_answer f (bytes bs) = bytes bs

-- P holds of each slot in the answer
abbrev pub Slots : (ℕ → Type 0) → Answer → Type 0
Slots P (refused n) = Unit
Slots P done = Unit
Slots P (flag b) = Unit
Slots P (slot i) = P i
Slots P (maybe_slot none) = Unit
Slots P (maybe_slot (some i)) = P i
Slots P (maybe_key o) = Unit
Slots P (score_is x) = Unit
Slots P (hits xs) = Each (λ x. P x.0) xs
Slots P (key_hits xs) = Unit
Slots P (size n) = Unit
Slots P (bytes bs) = Unit

renamed-unless : (f : ℕ → ℕ) (n : ℕ) (b : Answer) → renamed_answer f (unless n b) ≡ unless n (renamed_answer f b)
renamed-unless f zero b = refl
renamed-unless f (suc n) b = refl

slots-unless : (P : ℕ → Type 0) (n : ℕ) (b : Answer) → Slots P b → Slots P (unless n b)
slots-unless P zero b h = h
slots-unless P (suc n) b h = tt

-- a question that knows the numbers of the live slots as names only
pub record Blind (ask : List Cell → Answer) : Type 1 where
  pub renamed : (f : ℕ → ℕ) (cs : List Cell) → renamed_answer f (ask cs) ≡ ask (map (rename f) cs)
  pub slots : (P : ℕ → Type 0) (cs : List Cell) → Each (λ c. P c.number) cs → Slots P (ask cs)

-- ---- look-ups

pub held-renamed : (j : ℕ) (f : ℕ → ℕ) (cs : List Cell) → held_by j (map (rename f) cs) ≡ held_by j cs
held-renamed j f cs = count_map (rename f) (cell_holds j) cs

module _ (q : Mark → Bool) where
  abbrev by_mark : Cell → Bool
  by_mark c = q c.slot.mark

  pub where-renamed : (f : ℕ → ℕ) (cs : List Cell) → Option.map f (number_where by_mark cs) ≡ number_where by_mark (map (rename f) cs)
  unfolding number_where
  where-renamed f [] = refl
  where-renamed f (c ∷ cs) = go (by_mark c) (where-renamed f cs)
    where
      go : (b : Bool) → Option.map f (number_where by_mark cs) ≡ number_where by_mark (map (rename f) cs) →
          Option.map f (cond b (some c.number) (number_where by_mark cs)) ≡ cond b (some (f c.number)) (number_where by_mark (map (rename f) cs))
      go true ih = refl
      go false ih = ih

  where-slots : (P : ℕ → Type 0) (cs : List Cell) → Each (λ c. P c.number) cs → Slots P (maybe_slot (number_where by_mark cs))
  unfolding number_where
  where-slots P [] h = tt
  where-slots P (c ∷ cs) h = go (by_mark c) (where-slots P cs h.1)
    where
      go : (b : Bool) → Slots P (maybe_slot (number_where by_mark cs)) → Slots P (maybe_slot (cond b (some c.number) (number_where by_mark cs)))
      go true ih = h.0
      go false ih = ih

  where-blind : Blind (λ cs. maybe_slot (number_where by_mark cs))
  where-blind = record { renamed = λ f cs. ap maybe_slot (where-renamed f cs); slots = where-slots }

-- ---- searches

abbrev renamed_hit : (ℕ → ℕ) → Hit → Hit
renamed_hit f x = record { number = f x.number; key = x.key; score = x.score }

pub any-map : {X Y : Type 0} (p : Y → Bool) (f : X → Y) (xs : List X) → any p (map f xs) ≡ any (λ x. p (f x)) xs
unfolding any
any-map p f [] = refl
any-map p f (x ∷ xs) = ap (λ (b : Bool). p (f x) || b) (any-map p f xs)

module _ (h : Header) (q : Query) where
  hits-renamed : (f : ℕ → ℕ) (cs : List Cell) → hits_of h q (map (rename f) cs) ≡ map (renamed_hit f) (hits_of h q cs)
  hits-renamed f cs = map-map (hit_of h q) (rename f) cs ∙ sym (map-map (renamed_hit f) (hit_of h q) cs)

  refusal-renamed : (f : ℕ → ℕ) (xs : List Hit) → query_refusal h q (map (renamed_hit f) xs) ≡ query_refusal h q xs
  unfolding query_refusal
  refusal-renamed f xs = rw (any-map (λ (x : Hit). is_nan x.score) (renamed_hit f) xs)

  -- by what is shown of the hits
  searched-blind : (k places : ℕ) (shown : List Hit → Answer) → ((f : ℕ → ℕ) (xs : List Hit) → renamed_answer f (shown xs) ≡ shown (map (renamed_hit f) xs)) →
      ((P : ℕ → Type 0) (xs : List Hit) → Each (λ x. P x.number) xs → Slots P (shown xs)) → Blind (λ cs. searched h cs q k places shown)
  unfolding searched
  searched-blind k places shown e s =
      record {
        renamed = λ f cs.
            rw (
              hits-renamed f cs,
              refusal-renamed f (hits_of h q cs),
              choose-map rank (renamed_hit f) k (hits_of h q cs),
              length-map cs (rename f),
              ← e f
                  (choose rank k (hits_of h q cs)),
            )
            (renamed-unless f (first_of (short_result k (length cs) places ∷ query_refusal h q (hits_of h q cs) ∷ [])) (shown (choose rank k (hits_of h q cs))));
        slots = λ P cs p.
            slots-unless P (first_of (short_result k (length cs) places ∷ query_refusal h q (hits_of h q cs) ∷ [])) (shown (choose rank k (hits_of h q cs)))
            (s P (choose rank k (hits_of h q cs)) (choose-each rank k (hits_of h q cs) (λ x. P x.number) (each_map (λ x. P x.number) (hit_of h q) cs p)));
      }

  search-blind : (k places : ℕ) → Blind (λ cs. searched h cs q k places (λ xs. hits (map by_slot xs)))
  search-blind k places =
      searched-blind k places (λ xs. hits (map by_slot xs))
      (λ f xs. ap hits (map-map (λ (x : ℕ × Float). (f x.0, x.1)) by_slot xs ∙ sym (map-map by_slot (renamed_hit f) xs)))
      (λ P xs p. each_map (λ x. P x.0) by_slot xs p)

keys-renamed : (f : ℕ → ℕ) (seen : List ℕ) (xs : List Hit) → by_key seen xs ≡ by_key seen (map (renamed_hit f) xs)
unfolding by_key
keys-renamed f seen [] = refl
keys-renamed f seen (x ∷ xs) = go x.key (keys-renamed f seen xs) (λ k. keys-renamed f (k ∷ seen) xs)
  where
    go : (o : Option ℕ) → by_key seen xs ≡ by_key seen (map (renamed_hit f) xs) → ((k : ℕ) → by_key (k ∷ seen) xs ≡ by_key (k ∷ seen) (map (renamed_hit f) xs)) →
        ◌≡◌ {A = List (ℕ × Float)}
        (elim o [ none ↦ by_key seen xs | some k ↦ cond (any (eqb k) seen) (by_key seen xs) ((k, x.score) ∷ by_key (k ∷ seen) xs) ])
        (elim o [
          | none ↦ by_key seen (map (renamed_hit f) xs)
          | some k ↦ cond (any (eqb k) seen) (by_key seen (map (renamed_hit f) xs))
              ((k, x.score) ∷ by_key (k ∷ seen) (map (renamed_hit f) xs))
        ])
    go none a b = a
    go (some k) a b = rw (a, b k)

search_keyed-blind : (h : Header) (q : Query) (k places : ℕ) → Blind (λ cs. searched h cs q k places (λ xs. key_hits (by_key [] xs)))
search_keyed-blind h q k places = searched-blind h q k places (λ xs. key_hits (by_key [] xs)) (λ f xs. ap key_hits (keys-renamed f [] xs)) (λ P xs p. tt)

-- ---- key questions, writing

contains-blind : (j : ℕ) → Blind (λ cs. flag (is_held j cs))
contains-blind j = record { renamed = λ f cs. ap (λ (n : ℕ). flag (ltb 0 n)) (sym (held-renamed j f cs)); slots = λ P cs p. tt }

slot_of-blind : (j i : ℕ) → Blind (λ cs. maybe_slot (slot_holding j i cs))
slot_of-blind j i = where-blind (holds_at j i)

module _ (h : Header) where
  bytes-renamed : (f : ℕ → ℕ) (cs : List Cell) → file_bytes h cs ≡ file_bytes h (map (rename f) cs)
  bytes-renamed f cs = ap (λ es. file_of h es) (sym (map-map entry_of (rename f) cs))

  length-blind : Blind (λ cs. size (length (file_bytes h cs)))
  length-blind = record { renamed = λ f cs. ap (λ (bs : List ℕ). size (length bs)) (bytes-renamed f cs); slots = λ P cs p. tt }

  write-blind : (places : ℕ) → Blind (λ cs. unless (when (ltb places (length (file_bytes h cs))) 13) (bytes (file_bytes h cs)))
  write-blind places =
      record {
        renamed = λ f cs.
            renamed-unless f (when (ltb places (length (file_bytes h cs))) 13) (bytes (file_bytes h cs)) ∙
            ap (λ (bs : List ℕ). unless (when (ltb places (length bs)) 13) (bytes bs)) (bytes-renamed f cs);
        slots = λ P cs p. slots-unless P (when (ltb places (length (file_bytes h cs))) 13) (bytes (file_bytes h cs)) tt;
      }

-- ---- the calls that ask the live slots, and nothing else of the value than its header

pub record Asks (op : Op) (ask : Header → List Cell → Answer) : Type 1 where
  pub asked : (room : ℕ) (s : State) → step room s op ≡ answered s (ask s.header (live_from 0 s.slots))
  pub blind : (h : Header) → Blind (ask h)

pub search-asks : (q : Query) (k places : ℕ) → Asks (search q k places) (λ h cs. searched h cs q k places (λ xs. hits (map by_slot xs)))
unfolding step
search-asks q k places = record { asked = λ room s. refl; blind = λ h. search-blind h q k places }

pub search_keyed-asks : (q : Query) (k places : ℕ) → Asks (search_keyed q k places) (λ h cs. searched h cs q k places (λ xs. key_hits (by_key [] xs)))
unfolding step
search_keyed-asks q k places = record { asked = λ room s. refl; blind = λ h. search_keyed-blind h q k places }

pub contains-asks : (j : ℕ) → Asks (contains j) (λ h cs. flag (is_held j cs))
unfolding step
contains-asks j = record { asked = λ room s. refl; blind = λ h. contains-blind j }

pub slot_of-asks : (j i : ℕ) → Asks (slot_of j i) (λ h cs. maybe_slot (slot_holding j i cs))
unfolding step
slot_of-asks j i = record { asked = λ room s. refl; blind = λ h. slot_of-blind j i }

pub length-asks : Asks file_length (λ h cs. size (length (file_bytes h cs)))
unfolding step
length-asks = record { asked = λ room s. refl; blind = length-blind }

pub write-asks : (places : ℕ) → Asks (write places) (λ h cs. unless (when (ltb places (length (file_bytes h cs))) 13) (bytes (file_bytes h cs)))
unfolding step
write-asks places = record { asked = λ room s. refl; blind = λ h. write-blind h places }
