-- What the channels of a board carry.
use Rattle.std.specs.Prelude.{◌≡◌, ℕ, ◌+◌, ◌<◌, ◌≤◌, List, length, map, slice_index_or}
use Rattle.std.specs.List.{Contains}
use Rattle.core_model.specs.Graphs.{edge_at}
use Rattle.border_channel.specs.declared.edge.Message.{Message}
use Rattle.border_channel.specs.Channels.{Queue, empty_queue}
use Rattle.plan_graph.specs.PlanGraphs.{edges_of, graph_of}
use Rattle.task_board.specs.Boards.{BoardValue, state_of}
use Rattle.task_board.specs.Messages.{StandsOn}

-- the channel with this number; an empty one where there is none
abbrev pub queue_at : List Queue → ℕ → Queue
queue_at channels c = slice_index_or channels c (empty_queue 0)

-- these numbers, counted from the first
abbrev pub numbers_from : ℕ → List ℕ → List ℕ
numbers_from first places = map (λ j. first + j) places

-- the number of the edge of a message in a channel, among all edges
abbrev pub message_number : BoardValue → ℕ → Message → ℕ
message_number b c x = edge_at (graph_of b.plan) ((graph_of b.plan).into c) x.edge

-- The channels carry the messages of the edges that wait in them, in their order, each as it stands for its edge, and have room for
-- one of each of their edges.
pub record Carries (b : BoardValue) (channels : List Queue) : Type 0 where
  pub all : length channels ≡ (graph_of b.plan).channels
  pub waiting : (c : ℕ) → c < (graph_of b.plan).channels →
      map (message_number b c) (queue_at channels c).messages ≡ (state_of b).waiting c
  pub stand : (c : ℕ) (x : Message) → c < (graph_of b.plan).channels → Contains (queue_at channels c).messages x →
      StandsOn b ((graph_of b.plan).into c) x
  pub room : (c : ℕ) → c < (graph_of b.plan).channels → edges_of (graph_of b.plan) c ≤ (queue_at channels c).capacity
