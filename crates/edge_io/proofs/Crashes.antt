-- How the steps of a store keep the name whole.
use Rattle.std.proofs.Common.{◌≡◌, refl, sym, ◌∙◌, ap, subst, inl, inr, ⊎_elim, List, ℕ, [], ◌∷◌, ◌++◌, true, IsTrue, Option, Some, None, Result, Ok, Err, IfSome, IsSomeAnd, OnOk, OnErr, option_map, append_assoc, ◌≤◌, arith}
use Rattle.std.proofs.lemmas.List.Elements.{All-nil, All-cons, All-append, All-weaker}
use Rattle.edge_io.specs.Disk.{File, Folder, Trace, Leaves, moments, with_beside, written, synced, renamed, folder_synced, after, failing, Touches, Takes, FailedMore, IsWhole, WholeSince, StaysWhole, IsStored, HoldsSynced}

-- a step that leaves the name
same_name : (bytes : List ℕ) (file : Option File) (f : Folder) → IsWhole bytes f (with_beside file f)
same_name bytes file f = record { reader = inl refl; crash = λ left may. inl may }

-- one span of whole moments behind another
whole_on : (bytes : List ℕ) (f g h : Folder) → IsWhole bytes f g → IsWhole bytes g h → IsWhole bytes f h
whole_on bytes f g h one two = record {
  reader = ⊎_elim (λ e. ⊎_elim (λ e2. inl (e ∙ e2)) (λ e2. inr (e ∙ e2)) one.reader) (λ e. inr e) two.reader;
  crash = λ left may. ⊎_elim (λ m. one.crash left m) (λ e. inr e) (two.crash left may);
}

-- one step
since_step : (bytes : List ℕ) (t : Trace) (f : Folder) → IsWhole bytes t.now f → t.now.failures ≤ f.failures → WholeSince bytes t (record { now = f; past = moments t })
since_step bytes t f whole no_fewer = record { now = whole; since = f ∷ []; added = refl; each = All-cons (IsWhole bytes t.now) f [] whole (All-nil (IsWhole bytes t.now)); no_fewer = no_fewer }

since_on : (bytes : List ℕ) (a b c : Trace) → WholeSince bytes a b → WholeSince bytes b c → WholeSince bytes a c
since_on bytes a b c one two = record {
  now = whole_on bytes a.now b.now c.now one.now two.now;
  since = two.since ++ one.since;
  added = two.added ∙ ap (λ l. two.since ++ l) one.added ∙ sym (append_assoc two.since one.since (moments a));
  each = All-append (IsWhole bytes a.now) two.since one.since (All-weaker (IsWhole bytes b.now) (IsWhole bytes a.now) (λ h w. whole_on bytes a.now b.now h one.now w) two.since two.each) one.each;
  no_fewer = omega (arith, one.no_fewer, two.no_fewer);
}

-- two spans of a store
pub stays_on : (bytes : List ℕ) (a b c : Option Trace) → StaysWhole bytes a b → StaysWhole bytes b c → StaysWhole bytes a c
stays_on bytes None b c one two = tt
stays_on bytes (Some t) None c one two = absurd one
stays_on bytes (Some t) (Some u) None one two = absurd two
stays_on bytes (Some t) (Some u) (Some v) one two = since_on bytes t u v one two

stays_step : (bytes : List ℕ) (step : Folder → Folder) → ((f : Folder) → IsWhole bytes f (step f)) → ((f : Folder) → f.failures ≤ (step f).failures) → (t : Option Trace) → StaysWhole bytes t (after step t)
stays_step bytes step whole more None = tt
stays_step bytes step whole more (Some t) = since_step bytes t (step t.now) (whole t.now) (more t.now)

-- a call on the file beside
pub touched : {T E : Type 0} (bytes : List ℕ) (beside : Folder → Option File) (r : Result T E) (old new : Option Trace) → Touches r (λ f. with_beside (beside f) f) old new → StaysWhole bytes old new
touched bytes beside (Ok x) old new e = subst (StaysWhole bytes old) (sym e) (stays_step bytes (λ f. with_beside (beside f) f) (λ f. same_name bytes (beside f) f) (λ f. omega arith) old)
touched bytes beside (Err x) old new h = subst (StaysWhole bytes old) (sym h.1) (stays_step bytes (λ f. failing (with_beside h.0 f)) (λ f. record { reader = inl refl; crash = λ left may. inl may }) (λ f. omega arith) old)

-- a step whose call fails
fails_too : (bytes : List ℕ) (step : Folder → Folder) (t : Option Trace) → StaysWhole bytes t (after step t) → StaysWhole bytes t (after (λ f. failing (step f)) t)
fails_too bytes step None whole = tt
fails_too bytes step (Some t) whole = since_step bytes t (failing (step t.now)) (record { reader = whole.now.reader; crash = whole.now.crash }) (omega (arith, whole.no_fewer))

taken : {T E : Type 0} (bytes : List ℕ) (step : Folder → Folder) (r : Result T E) (old new : Option Trace) → StaysWhole bytes old (after step old) → Takes r step old new → StaysWhole bytes old new
taken bytes step (Ok x) old new whole e = subst (StaysWhole bytes old) (sym e) whole
taken bytes step (Err x) old new whole h = ⊎_elim (λ e. subst (StaysWhole bytes old) (sym e) (stays_step bytes failing (λ f. record { reader = inl refl; crash = λ left may. inl may }) (λ f. omega arith) old)) (λ e. subst (StaysWhole bytes old) (sym e) (fails_too bytes step old whole)) h

-- a crash leaves the bytes of a synced file
left_synced : (bytes : List ℕ) (left : Option (List ℕ)) → IsSomeAnd left (λ b. IsTrue true → b ≡ bytes) → left ≡ Some bytes
left_synced bytes None h = absurd h
left_synced bytes (Some b) h = ap Some (h refl)

-- a synced file gets the name
renamed_is_whole : (bytes : List ℕ) (f : Folder) → IsWhole bytes (synced (written bytes f)) (renamed (synced (written bytes f)))
renamed_is_whole bytes f = record { reader = inr refl; crash = λ left may. ⊎_elim (λ l. inr (left_synced bytes left l)) (λ o. inl o) may }

rename_steps : (bytes : List ℕ) (t : Option Trace) → StaysWhole bytes (after synced (after (written bytes) t)) (after renamed (after synced (after (written bytes) t)))
rename_steps bytes None = tt
rename_steps bytes (Some t) = since_step bytes _ (renamed (synced (written bytes t.now))) (renamed_is_whole bytes t.now) (omega arith)

-- the renaming of a file that was written and synced
pub rename_taken : {T E : Type 0} (bytes : List ℕ) (r : Result T E) (t a b c : Option Trace) → a ≡ after (written bytes) t → b ≡ after synced a → Takes r renamed b c → StaysWhole bytes b c
rename_taken bytes r t a b c e f takes =
    let is : b ≡ after synced (after (written bytes) t) = f ∙ ap (after synced) e in
    taken bytes renamed r b c (subst (λ x. StaysWhole bytes x (after renamed x)) (sym is) (rename_steps bytes t)) takes

holds_synced : (bytes : List ℕ) (t : Option Trace) → IfSome (after renamed (after synced (after (written bytes) t))) (λ u. HoldsSynced bytes u.now)
holds_synced bytes None = tt
holds_synced bytes (Some t) = refl

-- then the name holds the synced file
pub renamed_holds : {T E : Type 0} (bytes : List ℕ) (r : Result T E) (t a b c : Option Trace) → a ≡ after (written bytes) t → b ≡ after synced a → Takes r renamed b c → OnOk r (IfSome c (λ u. HoldsSynced bytes u.now))
renamed_holds bytes (Ok x) t a b c e f g = subst (λ x. IfSome x (λ u. HoldsSynced bytes u.now)) (sym (g ∙ ap (after renamed) (f ∙ ap (after synced) e))) (holds_synced bytes t)
renamed_holds bytes (Err x) t a b c e f g = tt

folder_is_whole : (bytes : List ℕ) (f : Folder) → IsWhole bytes f (folder_synced f)
folder_is_whole bytes f = record { reader = inl refl; crash = λ left may. ⊎_elim (λ l. inl (inl l)) (λ none. absurd none) may }

-- the folder's sync
pub folder_taken : {T E : Type 0} (bytes : List ℕ) (r : Result T E) (old new : Option Trace) → Takes r folder_synced old new → StaysWhole bytes old new
folder_taken bytes r old new takes = taken bytes folder_synced r old new (stays_step bytes folder_synced (folder_is_whole bytes) (λ f. omega arith) old) takes

is_stored : (bytes : List ℕ) (f : Folder) → HoldsSynced bytes f → IsStored bytes (folder_synced f)
is_stored bytes f e = record {
  reader = ap (λ named. option_map (λ (file : File). file.bytes) named) e;
  crash = λ left may. ⊎_elim (λ l. left_synced bytes left (subst (λ named. Leaves named left) e l)) (λ none. absurd none) may;
}

stored_after : (bytes : List ℕ) (t : Option Trace) → IfSome t (λ u. HoldsSynced bytes u.now) → IfSome (after folder_synced t) (λ u. IsStored bytes u.now)
stored_after bytes None h = tt
stored_after bytes (Some t) h = is_stored bytes t.now h

-- a synced file at a synced name is stored
pub stored : {T E : Type 0} (bytes : List ℕ) (r : Result T E) (old new : Option Trace) → IfSome old (λ u. HoldsSynced bytes u.now) → Takes r folder_synced old new → OnOk r (IfSome new (λ u. IsStored bytes u.now))
stored bytes (Ok x) old new holds e = subst (λ x. IfSome x (λ u. IsStored bytes u.now)) (sym e) (stored_after bytes old holds)
stored bytes (Err x) old new holds e = tt

-- of a disk that doesn't tell
pub untold_touch : {T E : Type 0} (r : Result T E) (step : Folder → Folder) → Touches r step None None
untold_touch (Ok x) step = refl
untold_touch (Err e) step = (None, refl)

pub untold_take : {T E : Type 0} (r : Result T E) (step : Folder → Folder) → Takes r step None None
untold_take (Ok x) step = refl
untold_take (Err e) step = inl refl

one_more : (t : Option Trace) (step : Folder → Folder) → ((f : Folder) → (step f).failures ≡ f.failures) → FailedMore t (after (λ f. failing (step f)) t)
one_more None step same = tt
one_more (Some t) step same = omega (arith, same t.now)

-- a call on the file beside that fails
pub touch_fails : {T E : Type 0} (r : Result T E) (step : Folder → Folder) (old new : Option Trace) → Touches r step old new → OnErr r (FailedMore old new)
touch_fails (Ok x) step old new h = tt
touch_fails (Err x) step old new h = subst (FailedMore old) (sym h.1) (one_more old (with_beside h.0) (λ f. refl))

-- another call that fails
pub take_fails : {T E : Type 0} (r : Result T E) (step : Folder → Folder) (old new : Option Trace) → ((f : Folder) → (step f).failures ≡ f.failures) → Takes r step old new → OnErr r (FailedMore old new)
take_fails (Ok x) step old new same h = tt
take_fails (Err x) step old new same h = ⊎_elim (λ e. subst (FailedMore old) (sym e) (one_more old (λ f. f) (λ f. refl))) (λ e. subst (FailedMore old) (sym e) (one_more old step same)) h

-- a failure behind whole moments
pub fails_behind : (bytes : List ℕ) (t a u : Option Trace) → StaysWhole bytes t a → FailedMore a u → FailedMore t u
fails_behind bytes None a u whole more = tt
fails_behind bytes (Some t) None u whole more = absurd whole
fails_behind bytes (Some t) (Some a) None whole more = absurd more
fails_behind bytes (Some t) (Some a) (Some u) whole more = omega (arith, whole.no_fewer, more)

-- the same of a call of any result
pub fails_last : {T E : Type 0} (bytes : List ℕ) (r : Result T E) (t a u : Option Trace) → StaysWhole bytes t a → OnErr r (FailedMore a u) → OnErr r (FailedMore t u)
fails_last bytes (Ok x) t a u whole more = tt
fails_last bytes (Err x) t a u whole more = fails_behind bytes t a u whole more

-- a failure before whole moments
pub fails_before : (bytes : List ℕ) (t a u : Option Trace) → FailedMore t a → StaysWhole bytes a u → FailedMore t u
fails_before bytes None a u more whole = tt
fails_before bytes (Some t) None u more whole = absurd more
fails_before bytes (Some t) (Some a) None more whole = absurd whole
fails_before bytes (Some t) (Some a) (Some u) more whole = omega (arith, more, whole.no_fewer)

-- a fact, whatever a call returned
pub of_any : {T E P : Type 0} (r : Result T E) → P → OnErr r P
of_any (Ok x) p = tt
of_any (Err x) p = p
