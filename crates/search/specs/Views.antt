-- The scene that a view shows.
use Rattle.std.specs.Prelude.{Bool}
use Rattle.refusal.specs.Tables.{holds_at}
use Rattle.source.specs.Pairs.{Pairs, holds}
use Rattle.search.specs.declared.view.View.{View}
use Rattle.search.specs.Scene.{Scene, scene}

abbrev pub seen : {S P : Type 0} → (S → Pairs) → (P → P → Bool) → View S P → Scene
seen pairs reaches view =
    scene (holds (pairs view.source.now)) view.slots.now (holds_at reaches view.ranking.now) view.member_in.now view.root view.names.now
