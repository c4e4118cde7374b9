-- Texts that are put into a buffer beside a sink, one after the other: what follows from the calls of a writer.
use Rattle.std.proofs.Common.{◌≡◌, ◌∙◌, refl, ℕ, List, [], ◌++◌, Option, Some, None, Result, Ok, Err, append-nil, append_assoc}
use Rattle.std.specs.Io.KnownBytes.{append_known}
use Rattle.tb_outside.proofs.Known.{adds_more, adds_none, front_behind, front_more}
use Rattle.tb_outside.specs.Buffers.{Gathers, TellsBuffer, WritesAllBut}
use Rattle.tb_outside.specs.Faults.{Rose, Stands, TellsFaults}
use Rattle.tb_outside.specs.Outside.{Writes, WritesFront}

-- a count that stood, and then rose
pub rose_after : (a b c : ℕ) → Stands a b → Rose b c → Rose a c
rose_after a b c same rise = rw same at rise

-- no text: nothing changes
pub gathers_none : {K : Type 0} {h : K → Option (List ℕ)} {f : K → ℕ} (a : K) (w : Option (List ℕ)) → Gathers h f a a w [] w
gathers_none a None = record { gathered = refl }
gathers_none {h = h} a (Some w) = record { gathered = (([], append-nil w, adds_none (h a)), refl) }

-- a text that waits whole: the sink isn't called
pub gathers_waiting : {K : Type 0} {h : K → Option (List ℕ)} {f : K → ℕ} (a : K) (w : Option (List ℕ)) (t : List ℕ) → Gathers h f a a w t (append_known w t)
gathers_waiting a None t = record { gathered = refl }
gathers_waiting {h = h} a (Some w) t = record { gathered = (([], refl, adds_none (h a)), refl) }

-- what is written of two texts, the first of which leaves a rest
all_but_more : (a b c : Option (List ℕ)) (s t w : List ℕ) (rest last : List ℕ) → WritesAllBut a b (w ++ s) rest → WritesAllBut b c (rest ++ t) last → WritesAllBut a c (w ++ (s ++ t)) last
all_but_more a b c s t w rest last first then =
    (first.0 ++ then.0, rw (← append_assoc, first.1, append_assoc first.0 rest t, then.1, append_assoc) refl, adds_more a b c first.0 then.0 first.2 then.2)

all_but_front : (a b c : Option (List ℕ)) (s t w : List ℕ) (rest : List ℕ) → WritesAllBut a b (w ++ s) rest → WritesFront b c (rest ++ t) → WritesFront a c (w ++ (s ++ t))
all_but_front a b c s t w rest first then =
    rw (← append_assoc, first.1, append_assoc) (front_behind a b c first.0 (rest ++ t) first.2 then)

front_cut : (a b : Option (List ℕ)) (s t w : List ℕ) → WritesFront a b (w ++ s) → WritesFront a b (w ++ (s ++ t))
front_cut a b s t w first = rw (← append_assoc) (front_more a b (w ++ s) t first)

-- two texts, one after the other
pub gathers_both : {K : Type 0} {h : K → Option (List ℕ)} {f : K → ℕ} {a b c : K} {u v w : Option (List ℕ)} {s t : List ℕ} → Gathers h f a b u s v → Gathers h f b c v t w → Gathers h f a c u (s ++ t) w
gathers_both {h = h} {f = f} {a = a} {b = b} {c = c} {u = None} {v = None} {w = None} {s = s} {t = t} x y = record { gathered = y.gathered ∙ x.gathered }
gathers_both {h = h} {f = f} {a = a} {b = b} {c = c} {u = None} {v = None} {w = Some w} {s = s} {t = t} x y = absurd y.gathered
gathers_both {h = h} {f = f} {a = a} {b = b} {c = c} {u = None} {v = Some v} {w = w} {s = s} {t = t} x y = absurd x.gathered
gathers_both {h = h} {f = f} {a = a} {b = b} {c = c} {u = Some u} {v = None} {w = None} {s = s} {t = t} x y =
    record { gathered = rw y.gathered (front_cut (h a) (h b) s t u x.gathered.0, x.gathered.1) }
gathers_both {h = h} {f = f} {a = a} {b = b} {c = c} {u = Some u} {v = None} {w = Some w} {s = s} {t = t} x y = absurd y.gathered
gathers_both {h = h} {f = f} {a = a} {b = b} {c = c} {u = Some u} {v = Some v} {w = None} {s = s} {t = t} x y =
    record { gathered = (all_but_front (h a) (h b) (h c) s t u v x.gathered.0 y.gathered.0, rose_after (f a) (f b) (f c) x.gathered.1 y.gathered.1) }
gathers_both {h = h} {f = f} {a = a} {b = b} {c = c} {u = Some u} {v = Some v} {w = Some w} {s = s} {t = t} x y =
    record { gathered = (all_but_more (h a) (h b) (h c) s t u v w x.gathered.0 y.gathered.0, y.gathered.1 ∙ x.gathered.1) }

-- the same text, written in another way
pub gathers_same : {K : Type 0} {h : K → Option (List ℕ)} {f : K → ℕ} {a b : K} {u v : Option (List ℕ)} {s t : List ℕ} → s ≡ t → Gathers h f a b u s v → Gathers h f a b u t v
gathers_same e x = rw (← e) x

-- a whole writer, the text and the flush behind an empty buffer: what was written
pub written : {K E : Type 0} {h : K → Option (List ℕ)} {f : K → ℕ} {a b c : K} {v w : Option (List ℕ)} {t : List ℕ} (r : Result (Unit {0}) E)
    → Gathers h f a b (Some []) t v → Gathers h f b c v [] w → TellsBuffer w r → Writes (h a) (h c) t r
written {h = h} {f = f} {a = a} {b = b} {c = c} {v = v} {w = w} {t = t} (Ok u) x y told =
    let all : Gathers h f a c (Some []) (t ++ []) (Some []) = rw told at (gathers_both x y) in
    let parts = all.gathered.0 in
    let whole : t ≡ parts.0 = simp append-nil at parts.1 in
    rw whole parts.2
written {h = h} {f = f} {a = a} {b = b} {c = c} {v = v} {w = w} {t = t} (Err e) x y told =
    let all : Gathers h f a c (Some []) (t ++ []) None = rw told at (gathers_both x y) in
    rw append-nil at all.gathered.0

-- and what it tells of the faults of the sink
pub faults_told : {K E : Type 0} {h : K → Option (List ℕ)} {f : K → ℕ} {a b c : K} {v w : Option (List ℕ)} {t : List ℕ} (r : Result (Unit {0}) E)
    → Gathers h f a b (Some []) t v → Gathers h f b c v [] w → TellsBuffer w r → TellsFaults (f a) (f c) r
faults_told {h = h} {f = f} {a = a} {b = b} {c = c} {v = v} {w = w} {t = t} (Ok u) x y told =
    let all : Gathers h f a c (Some []) (t ++ []) (Some []) = rw told at (gathers_both x y) in
    all.gathered.1
faults_told {h = h} {f = f} {a = a} {b = b} {c = c} {v = v} {w = w} {t = t} (Err e) x y told =
    let all : Gathers h f a c (Some []) (t ++ []) None = rw told at (gathers_both x y) in
    all.gathered.1
